use Rattle.std.proofs.Common.{sym, false, true, rules}
use Rattle.serde_json.specs.View.{items_view}
use Rattle.handlebars_base.proofs.ShownValues.{shown-null, shown-bool, shown-object, shown-array, shown-items_from, shown-items_end}
use Rattle.handlebars_base.proofs.Writes.{whole-nil, written_is, begins, left_is, next_write, failed_write, last_write, ends_here}
use Rattle.handlebars_base.proofs.json.value.write.+write.Goals as goal

pub write_array-returns-in_err-write-clause-written : goal.write_array-returns-in_err-write-clause-written
write_array-returns-in_err-write-clause-written g t c =
    let left = left_is (shown-array c.args.escapes (items_view c.args.items.now.items)) (begins _ _) in
    failed_write _ _ c.from_residual.ensures.0 left c.in_err-write.ensures.written

pub write_array-returns-in_err-write_items-clause-written : goal.write_array-returns-in_err-write_items-clause-written
write_array-returns-in_err-write_items-clause-written g t c =
    let left = left_is (shown-array c.args.escapes (items_view c.args.items.now.items)) (begins _ _) in
    failed_write _ _ c.from_residual-in_err-write_items.ensures.0 (next_write left c.in_ok-write.ensures.written) c.in_err-write_items.ensures.written

pub write_array-returns-clause-written : goal.write_array-returns-clause-written
write_array-returns-clause-written g t c =
    let left = left_is (shown-array c.args.escapes (items_view c.args.items.now.items)) (begins _ _) in
    last_write _ _ (next_write (next_write left c.in_ok-write.ensures.written) c.in_ok-write_items.ensures.written) c.write-2.ensures.written

pub write_value-returns-in-Null-clause-written : goal.write_value-returns-in-Null-clause-written
write_value-returns-in-Null-clause-written g t c = rw (shown-null c.args.escapes c.args.value.now c.in-Null.is) (whole-nil _)

pub write_value-returns-in-Bool-true-clause-written : goal.write_value-returns-in-Bool-true-clause-written
write_value-returns-in-Bool-true-clause-written g t c =
    written_is _ _ _ (sym (shown-bool c.args.escapes c.args.value.now c.in-Bool-true.field-0 true c.in-Bool-true.is (search rules))) c.write.ensures.written

pub write_value-returns-in-Bool-false-clause-written : goal.write_value-returns-in-Bool-false-clause-written
write_value-returns-in-Bool-false-clause-written g t c =
    written_is _ _ _ (sym (shown-bool c.args.escapes c.args.value.now c.in-Bool-false.field-0 false c.in-Bool-false.is (search rules))) c.write-in-Bool-false.ensures.written

pub write_value-returns-in-Object-clause-written : goal.write_value-returns-in-Object-clause-written
write_value-returns-in-Object-clause-written g t c =
    written_is _ _ _ (sym (shown-object c.args.escapes c.args.value.now c.in-Object.field-0 c.in-Object.is)) c.write-in-Object.ensures.written

pub write_items-returns-in_err-write_separator-clause-written : goal.write_items-returns-in_err-write_separator-clause-written
write_items-returns-in_err-write_separator-clause-written g t c =
    let l = c.loop-item in
    let left = left_is (shown-items_from c.args.escapes l.first _ l.item-index _ c.loop-item-test.true c.item-item.is) l.invariant in
    rw (sym c.deref-item-items.ensures.value) (failed_write _ _ c.from_residual.ensures.0 left c.in_err-write_separator.ensures.written)

pub write_items-returns-in_err-write_value-clause-written :
    goal.write_items-returns-in_err-write_value-clause-written
write_items-returns-in_err-write_value-clause-written g t c =
    let l = c.loop-item in
    let left = left_is (shown-items_from c.args.escapes l.first _ l.item-index _ c.loop-item-test.true c.item-item.is) l.invariant in
    rw (sym c.deref-item-items.ensures.value) (failed_write _ _ c.from_residual-in_err-write_value.ensures.0
    (next_write left c.in_ok-write_separator.ensures.written) c.in_err-write_value.ensures.written)

pub write_items-loop-item-preserved : goal.write_items-loop-item-preserved
write_items-loop-item-preserved g t c =
    let l = c.loop-item in
    let left = left_is (shown-items_from c.args.escapes l.first _ l.item-index _ c.loop-item-test.true c.item-item.is) l.invariant in
    next_write (next_write left c.in_ok-write_separator.ensures.written) c.in_ok-write_value.ensures.written

pub write_items-returns-clause-written : goal.write_items-returns-clause-written
write_items-returns-clause-written g t c =
    let l = c.loop-item in
    rw (sym c.deref-item-items.ensures.value)
    (ends_here (left_is (shown-items_end c.args.escapes l.first _ l.item-index c.loop-item-test.false) l.invariant))
