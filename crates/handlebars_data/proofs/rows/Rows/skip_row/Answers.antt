use Rattle.std.proofs.Common.{rules, ◌≡◌, None, length}
use Rattle.handlebars_data.specs.RowsView.{rows_failure, rows_names, rows_reader}
use Rattle.handlebars_data.proofs.RowErrors.{ready_again}
use Rattle.handlebars_data.proofs.rows.Rows.skip_row.Goals as goal

pub returns-in-Err-clause-ready : goal.returns-in-Err-clause-ready
returns-in-Err-clause-ready g c = λ ready none ended.
    let fresh : rows_failure c.args.self.now ≡ None = search rules in
    rw (c.stop_at.ensures.reader, c.stop_at.ensures.names)
    (ready_again (rows_reader c.args.self.now) c.read_record.new.self (length (rows_names c.args.self.now)) _ _ _ _ _ c.row_failure.ensures c.stop_at.ensures.failure none
    c.in-Err.ensures.goes_on (ready fresh c.if-self.false))
