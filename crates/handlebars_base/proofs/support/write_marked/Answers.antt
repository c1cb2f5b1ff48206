use Rattle.std.proofs.Common.{◌+◌, ◌++◌, ap, arith}
use Rattle.std.proofs.lemmas.Str.{IsCharBoundary-start}
use Rattle.handlebars_base.specs.Escape.{escaped}
use Rattle.handlebars_base.proofs.EscapedRuns.{left_at, left_at-prefix, left_at-plain, left_at-entity, left_at-end, boundary-entity}
use Rattle.handlebars_base.proofs.Writes.{AllBut, begins, left_is, next_write, gathers, failed_write, last_write}
use Rattle.handlebars_base.proofs.support.write_marked.Goals.{in-Some, in_default, then-remaining_capacity-run+in_ok-write_after, else-remaining_capacity-run}
use Rattle.handlebars_base.proofs.support.write_marked.Goals as goal

pub loop-at-init : goal.loop-at-init
loop-at-init g c = record {
  within = omega arith;
  boundary = IsCharBoundary-start c.args.text.now c.utf8.text;
  left = rw c.new-piece.ensures (left_is (left_at-prefix _ _ c.requires) (begins _ _));
}

pub loop-at-preserved : goal.loop-at-preserved
loop-at-preserved g c =
    let l = c.loop-at in
    let bytes = c.as_bytes-bytes.ensures.value in
    let inside = c.loop-at-test.true in
    elim c.match-entity_of.branch [
      | in-Some w ↦
          let here = left_at-entity _ _ _ _ l.written l.at bytes w.range-run.ensures.value inside w.in-Some.ensures.is in
          let run = gathers l.piece.bytes _ _ (left_is (ap (λ t. l.piece.bytes ++ t) here) l.invariant.left) in
          let both : AllBut (w.if-remaining_capacity-run.piece.bytes ++ (w.in-Some.entity.now ++ left_at c.args.text.now (l.at + 1) (l.at + 1)))
          (escaped c.args.text.now) (g.O.Output.held c.args.out.now) (g.O.Output.held w.if-remaining_capacity-run.out) =
          elim w.if-remaining_capacity-run.branch [
            | then-remaining_capacity-run+in_ok-write_after v ↦
                rw (v.out-is, v.piece-is, v.in_ok-write_after.ensures.empty) (next_write run v.in_ok-write_after.ensures.written)
            | else-remaining_capacity-run v ↦ rw (v.out-is, v.piece-is, v.push_str.ensures.bytes) run
          ] in
          rw (w.written-is, w.out-is, w.piece-is, w.push_str-in-Some.ensures.bytes) record {
            within = omega arith;
            boundary = boundary-entity _ _ _ l.at c.utf8.text bytes inside w.in-Some.ensures.is;
            left = gathers w.if-remaining_capacity-run.piece.bytes _ _ both;
          }
      | in_default w ↦
          rw (w.written-is, w.out-is, w.piece-is) record {
            within = omega arith;
            boundary = l.invariant.boundary;
            left = left_is (ap (λ t. l.piece.bytes ++ t) (left_at-plain _ _ l.written l.at bytes l.invariant.within inside w.in_default.ensures.is)) l.invariant.left;
          }
    ]

pub returns-in_err-write_after-clause-written : goal.returns-in_err-write_after-clause-written
returns-in_err-write_after-clause-written g c =
    let l = c.loop-at in
    let here = left_at-entity _ _ _ _ l.written l.at c.as_bytes-bytes.ensures.value c.range-run.ensures.value c.loop-at-test.true c.in-Some.ensures.is in
    let run = gathers l.piece.bytes _ _ (left_is (ap (λ t. l.piece.bytes ++ t) here) l.invariant.left) in
    failed_write _ _ c.from_residual.ensures.0 run c.in_err-write_after.ensures.written

pub returns-clause-written : goal.returns-clause-written
returns-clause-written g c =
    let l = c.loop-at in
    let at_end = left_at-end _ _ _ l.written l.at c.as_bytes-bytes.ensures.value c.range_from.ensures.value c.loop-at-test.false in
    last_write _ _ (left_is (ap (λ t. l.piece.bytes ++ t) at_end) l.invariant.left) c.write_after-2.ensures.written
