use Rattle.std.proofs.Common.{◌∙◌, ◌≡◌, ◌++◌, ap, sym, arith, get_or, true, false, string_bytes, [], ◌+◌, length, refl}
use Rattle.std.proofs.lemmas.Str.{IsCharBoundary-start}
use Rattle.handlebars_data.specs.TomlFloats.{in_word, quote_floats}
use Rattle.handlebars_data.specs.TomlPlaces.{step}
use Rattle.handlebars_data.proofs.TomlScans.{more_in_word, none_in_word, text_is_over, word_end, word_goes_on, word_is_over}
use Rattle.handlebars_data.proofs.toml_floats.quoted_floats.Goals as goal

pub bytes-init : goal.bytes-init
bytes-init c = record {
  order = omega arith;
  up_to = omega arith;
  start = IsCharBoundary-start c.args.text.now c.utf8.text;
  words = none_in_word c.args.text.now 0;
  depth = omega (arith, ap (λ p. p.depth) c.start-place.ensures);
  whole = ap (λ b. b ++ quote_floats c.start-place.result [] c.args.text.now) c.new-quoted.ensures.bytes ∙ ap (λ p. quote_floats p [] c.args.text.now) c.start-place.ensures;
}

pub bytes-preserved-then-inside : goal.bytes-preserved-then-inside
bytes-preserved-then-inside c =
    let inv = c.bytes.invariant in
    let same = c.as_bytes-bytes.ensures.value in
    let within = c.as_bytes-bytes.ensures.len in
    let stepped : c.step-place.result ≡ step c.bytes.place (get_or c.args.text.now c.bytes.at 0) =
    c.step-place.ensures.place ∙ ap (λ t. step c.bytes.place (get_or t c.bytes.at 0)) same in
    let goes : in_word c.bytes.place (get_or c.args.text.now c.bytes.at 0) ≡ true =
    ap (λ t. in_word c.bytes.place (get_or t c.bytes.at 0)) (sym same) ∙ sym c.in_word-inside.ensures ∙ c.if-inside.true in
    record {
      order = inv.order;
      up_to = omega (arith, inv.up_to);
      start = inv.start;
      words = more_in_word c.args.text.now c.bytes.place c.bytes.word c.bytes.at inv.words goes;
      depth = omega (arith, inv.depth, c.step-place.ensures.depth);
      whole = word_goes_on c.args.text.now c.bytes.place c.step-place.result c.bytes.copied c.bytes.word c.bytes.at (string_bytes c.bytes.quoted) _ inv.up_to (omega arith) goes stepped inv.whole;
    }

pub push_word-requires-clause-end : goal.push_word-requires-clause-end
push_word-requires-clause-end c = word_end c.args.text.now c.bytes.word c.bytes.at c.utf8.text c.bytes.invariant.words (omega (arith, c.as_bytes-bytes.ensures.len))

pub bytes-preserved : goal.bytes-preserved
bytes-preserved c =
    let inv = c.bytes.invariant in
    let same = c.as_bytes-bytes.ensures.value in
    let within = c.as_bytes-bytes.ensures.len in
    let pushed = c.in_ok-copied.ensures in
    let stepped : c.step-place.result ≡ step c.bytes.place (get_or c.args.text.now c.bytes.at 0) =
    c.step-place.ensures.place ∙ ap (λ t. step c.bytes.place (get_or t c.bytes.at 0)) same in
    let over : in_word c.bytes.place (get_or c.args.text.now c.bytes.at 0) ≡ false =
    ap (λ t. in_word c.bytes.place (get_or t c.bytes.at 0)) (sym same) ∙ sym c.in_word-inside.ensures ∙ c.if-inside.false in
    record {
      order = omega (arith, pushed.0);
      up_to = omega arith;
      start = pushed.1;
      words = none_in_word c.args.text.now (c.bytes.at + 1);
      depth = omega (arith, inv.depth, c.step-place.ensures.depth);
      whole = word_is_over c.args.text.now c.bytes.place c.step-place.result c.bytes.copied c.bytes.word c.bytes.at c.in_ok-copied.copied (string_bytes c.bytes.quoted)
          (string_bytes c.push_word.new.quoted) _ pushed.0 (omega arith) over stepped pushed.2 inv.whole;
    }

pub returns : goal.returns
returns c =
    let inv = c.bytes.invariant in
    let pushed = c.in_ok-end.ensures in
    let within = c.as_bytes-bytes.ensures.len in
    let end : c.bytes.at ≡ length c.args.text.now = omega arith in
    text_is_over c.args.text.now c.bytes.place c.bytes.copied c.bytes.word c.in_ok-end.end _ (string_bytes c.bytes.quoted) (string_bytes c.push_word-2.new.quoted) _ _ refl pushed.2
    (rw end at inv.whole)
    (c.in_ok-push_str.ensures.bytes ∙ ap (λ t. string_bytes c.push_word-2.new.quoted ++ t) c.range_from.ensures.value)
