use Rattle.std.proofs.Common.{arith}
use Rattle.std.proofs.lemmas.Str.{IsCharBoundary-start}
use Rattle.handlebars_base.proofs.Writes.{begins, left_is, next_write, failed_write, last_write}
use Rattle.handlebars_scope.proofs.Indents.{line-more, line-cut, line-end, line-none, boundary-cut}
use Rattle.handlebars_scope.proofs.indentation.write_lines.Goals.{then-bytes-at-eq10+in_ok-write_part+in_ok-write, else-bytes-at-eq10}
use Rattle.handlebars_scope.proofs.indentation.write_lines.Goals as goal

pub loop-at-init : goal.loop-at-init
loop-at-init g c = record {
  within = omega arith;
  boundary = IsCharBoundary-start c.args.text.now c.utf8.text;
  line = tt;
  left = begins _ _;
}

pub range-requires-clause-end_boundary : goal.range-requires-clause-end_boundary
range-requires-clause-end_boundary g c =
    boundary-cut _ _ c.loop-at.at c.utf8.text c.as_bytes-bytes.ensures.value c.loop-at-test.true
    c.loop-at.written c.loop-at.invariant.within c.if-bytes-at-eq10.true

pub loop-at-preserved : goal.loop-at-preserved
loop-at-preserved g c =
    let l = c.loop-at in
    let bytes = c.as_bytes-bytes.ensures.value in
    let inside = c.loop-at-test.true in
    elim c.if-bytes-at-eq10.branch [
      | then-bytes-at-eq10+in_ok-write_part+in_ok-write w ↦
          let left = left_is (line-cut _ _ _ _ _ l.written l.at bytes w.range.ensures.value l.invariant.within inside w.if-bytes-at-eq10.true l.invariant.line) l.invariant.left in
          rw (w.written-is, w.out-is) record {
            within = omega arith;
            boundary = boundary-cut _ _ l.at c.utf8.text bytes inside l.written l.invariant.within w.if-bytes-at-eq10.true;
            line = line-none _ l.at;
            left = next_write (next_write left w.in_ok-write_part.ensures.written) w.in_ok-write.ensures.written;
          }
      | else-bytes-at-eq10 w ↦
          rw (w.written-is, w.out-is) record {
            within = omega arith;
            boundary = l.invariant.boundary;
            line = line-more _ _ l.written l.at bytes l.invariant.within inside w.if-bytes-at-eq10.false l.invariant.line;
            left = l.invariant.left;
          }
    ]

pub returns-in_err-write_part-clause-written : goal.returns-in_err-write_part-clause-written
returns-in_err-write_part-clause-written g c =
    let l = c.loop-at in
    let here = line-cut _ _ _ _ _ l.written l.at c.as_bytes-bytes.ensures.value c.range.ensures.value l.invariant.within c.loop-at-test.true c.if-bytes-at-eq10.true l.invariant.line in
    failed_write _ _ c.from_residual.ensures.0 (left_is here l.invariant.left) c.in_err-write_part.ensures.written

pub returns-in_err-write-clause-written : goal.returns-in_err-write-clause-written
returns-in_err-write-clause-written g c =
    let l = c.loop-at in
    let here = line-cut _ _ _ _ _ l.written l.at c.as_bytes-bytes.ensures.value c.range.ensures.value l.invariant.within c.loop-at-test.true c.if-bytes-at-eq10.true l.invariant.line in
    failed_write _ _ c.from_residual-in_err-write.ensures.0 (next_write (left_is here l.invariant.left) c.in_ok-write_part.ensures.written)
    c.in_err-write.ensures.written

pub returns-clause-written : goal.returns-clause-written
returns-clause-written g c =
    let l = c.loop-at in
    let at_end = line-end _ _ _ _ _ l.written l.at c.as_bytes-bytes.ensures.value c.range_from.ensures.value c.loop-at-test.false l.invariant.line in
    last_write _ _ (left_is at_end l.invariant.left) c.write_part-2.ensures.written
