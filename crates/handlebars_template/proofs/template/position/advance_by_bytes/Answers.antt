use Rattle.std.proofs.Common.{◌≡◌, ℕ, ◌+◌, ◌-◌, ◌≤◌, get_or, length, take, refl, sym, ap, ◌∙◌, arith}
use Rattle.std.specs.Prelude.{fold}
use Rattle.std.proofs.lemmas.List.{take_all}
use Rattle.std.proofs.lemmas.List.Sums.{fold_more}
use Rattle.handlebars_template.specs.Position.{Position}
use Rattle.handlebars_template.specs.TreeView.{position_of}
use Rattle.handlebars_template.proofs.Columns.{position_after_byte, position_after-bytes, same_position, next_column, newline_byte, ascii_byte, continuation_byte, leading_byte}
use Rattle.handlebars_template.proofs.template.position.advance_by_bytes.Goals as goal
use Rattle.handlebars_template.proofs.template.position.advance_by_bytes.Goals.{then-byte-lt11+then-byte-eq10, then-byte-lt11+else-byte-eq10+then-byte-gt127-2+then-byte-lt192, then-byte-lt11+else-byte-eq10+else-byte-gt127-2, else-byte-gt127-2-via-then-byte-gt127-2+else-byte-lt192, else-byte-gt127-2-via-else-byte-gt127-2, else-byte-lt11+else-byte-gt127}

pub returns : goal.returns
returns c =
    let over : c.loop-at.at ≡ length c.as_bytes-bytes.result.now = omega (arith, c.loop-at-test.false, c.loop-at.auto.at-end) in
    let whole : take c.loop-at.at c.as_bytes-bytes.result.now ≡ c.args.text.now = take_all c.loop-at.at c.as_bytes-bytes.result.now c.loop-at-test.false ∙ c.as_bytes-bytes.ensures.value in
    let last : Position = record { line = c.loop-at.line; column = c.loop-at.column + (length c.as_bytes-bytes.result.now - c.loop-at.from) } in
    let now : Position = record { line = c.loop-at.line; column = c.loop-at.column + (c.loop-at.at - c.loop-at.from) } in
    same_position last now refl (omega (arith, over)) ∙ c.loop-at.invariant.value ∙ ap (fold position_after_byte (position_of c.args.position)) whole ∙ position_after-bytes (position_of c.args.position) c.args.text.now c.utf8.text

pub loop-at-preserved : goal.loop-at-preserved
loop-at-preserved c =
    let b : ℕ = get_or c.as_bytes-bytes.result.now c.loop-at.at 0 in
    let was : Position = record { line = c.loop-at.line; column = c.loop-at.column + (c.loop-at.at - c.loop-at.from) } in
    let now : Position = record { line = c.if-byte-lt11.line; column = c.if-byte-lt11.column + (c.loop-at.at + 1 - c.if-byte-lt11.from) } in
    let next : (now ≡ position_after_byte was b) × (c.if-byte-lt11.from ≤ c.loop-at.at + 1) × (now.line ≤ was.line + 1) × (now.column ≤ was.column + 1) = elim c.if-byte-lt11.branch [
      | then-byte-lt11+then-byte-eq10 w ↦ (
        same_position now (record { line = was.line + 1; column = 1 }) w.line-is (omega (arith, w.column-is, w.from-is)) ∙ sym (newline_byte was b w.if-byte-eq10.true),
        omega (arith, w.from-is),
        omega (arith, w.line-is),
        omega (arith, w.column-is, w.from-is),
      )
      | then-byte-lt11+else-byte-eq10+then-byte-gt127-2+then-byte-lt192 w ↦ (
        same_position now was w.line-is (omega (arith, w.column-is, w.from-is)) ∙ sym (continuation_byte was b (omega (arith, w.if-byte-gt127-2.true)) w.if-byte-lt192.true),
        omega (arith, w.from-is),
        omega (arith, w.line-is),
        omega (arith, w.column-is, w.from-is),
      )
      | then-byte-lt11+else-byte-eq10+else-byte-gt127-2 w ↦ (
        same_position now (next_column was) w.line-is (omega (arith, w.column-is, w.from-is)) ∙ elim w.else-byte-gt127-2.branch [
          | else-byte-gt127-2-via-then-byte-gt127-2+else-byte-lt192 v ↦ sym (leading_byte was b v.if-byte-lt192.false)
          | else-byte-gt127-2-via-else-byte-gt127-2 v ↦ sym (ascii_byte was b w.if-byte-eq10.false (omega (arith, v.if-byte-gt127-2.false)))
        ],
        omega (arith, w.from-is),
        omega (arith, w.line-is),
        omega (arith, w.column-is, w.from-is),
      )
      | else-byte-lt11+else-byte-gt127 w ↦ (
        same_position now (next_column was) w.line-is (omega (arith, w.column-is, w.from-is)) ∙ sym (ascii_byte was b (λ e. absurd (omega (arith, e, w.if-byte-lt11.false))) (omega (arith, w.if-byte-gt127.false))),
        omega (arith, w.from-is),
        omega (arith, w.line-is),
        omega (arith, w.column-is, w.from-is),
      )
    ] in
    record {
      value = next.0 ∙ ap (λ (p : Position). position_after_byte p b) c.loop-at.invariant.value ∙ sym (fold_more position_after_byte (position_of c.args.position) c.as_bytes-bytes.result.now c.loop-at.at 0 c.loop-at-test.true);
      within = next.1;
      line = omega (arith, next.2);
      column = omega (arith, next.3);
    }
