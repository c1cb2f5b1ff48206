use Rattle.std.proofs.Common.{◌∙◌, ap, Ok}
use Rattle.std.proofs.lemmas.Result.{err_from_is_err_and}
use Rattle.serde_json.proofs.Views.{view-Array}
use Rattle.handlebars_data.specs.RowsView.{rows_fields, rows_names}
use Rattle.handlebars_data.proofs.TableReads.{begins, over_null, row_given, none_given, row_refused, refused_header}
use Rattle.handlebars_data.proofs.rows.all_rows.Goals as goal

pub returns-in_err-rows-clause-refused : goal.returns-in_err-rows-clause-refused
returns-in_err-rows-clause-refused c =
    let p = err_from_is_err_and c.from_residual.result c.from_residual.ensures.1 in
    rw (p.1, p.2) (λ on. refused_header c.args.delimiter c.args.text.now _ (c.in_err-rows.ensures.refused on))

pub rows-init : goal.rows-init
rows-init c = record {
  ready = c.in_ok-rows.ensures.ready;
  failure = c.in_ok-rows.ensures.failure;
  config = c.in_ok-rows.ensures.header.0.1;
  text = c.in_ok-rows.ensures.header.1;
  at = rw c.new-items.ensures.items (begins c.args.delimiter c.args.text.now c.in_ok-rows.rows c.in_ok-rows.ensures.header c.in_ok-rows.ensures.number);
}

pub returns-in_err-read_row-clause-refused : goal.returns-in_err-read_row-clause-refused
returns-in_err-read_row-clause-refused c =
    let p = err_from_is_err_and c.from_residual-in_err-read_row.result c.from_residual-in_err-read_row.ensures.1 in
    let inv = c.rows.invariant in
    let next = c.in_err-read_row.ensures in
    rw (p.1, p.2) (row_refused c.args.delimiter c.args.text.now c.rows.rows c.read_row.new.self c.rows.items.items c.read_row.result c.in_err-read_row.field-0.0 c.in_err-read_row.was
    (c.read_row.ensures.ended inv.failure) inv.config inv.text (next.next inv.ready inv.failure) inv.at (next.number inv.failure))

pub returns-then-not-branch-clause-ok : goal.returns-then-not-branch-clause-ok
returns-then-not-branch-clause-ok c =
    let inv = c.rows.invariant in
    let next = rw c.if-not-branch.true at c.in_ok-read_row.ensures.next in
    rw (view-Array c.rows.items) (none_given c.args.delimiter c.args.text.now c.rows.rows c.read_row.new.self c.rows.items.items inv.config inv.text (next inv.ready inv.failure) inv.at)

pub rows-preserved : goal.rows-preserved
rows-preserved c =
    let inv = c.rows.invariant in
    let found = c.in_ok-read_row.ensures in
    let next = rw c.if-not-branch.false at found.next in
    let ends = rw c.if-not-branch.false at found.ends in
    let taken = rw c.if-not-branch.false at found.taken in
    let given = row_given c.args.delimiter c.args.text.now c.rows.rows c.read_row.new.self c.rows.items.items c.push.new.self.items c.read_row.new.row c.read_row.result
    (c.in_ok-read_row.was ∙ ap Ok c.if-not-branch.false) (c.read_row.ensures.ended inv.failure) ends found.names inv.config (next inv.ready inv.failure)
    (over_null (rows_names c.rows.rows) (rows_fields c.read_row.new.self) c.read_row.new.row (found.row c.if-not-branch.false)) taken c.in_ok-push.ensures.items inv.at in
    record {
      ready = found.ready inv.ready;
      failure = found.goes_on;
      config = given.0;
      text = rw found.names inv.text;
      at = given.1;
    }
