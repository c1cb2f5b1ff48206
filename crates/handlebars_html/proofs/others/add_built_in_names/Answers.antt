use Rattle.std.proofs.Common.{arith}
use Rattle.handlebars_helpers.specs.View.{built_in_kind}
use Rattle.handlebars_html.proofs.Listed.{built_ins-rows, names-go, names-end}
use Rattle.handlebars_html.proofs.others.add_built_in_names.Goals as goal

pub rows-preserved : goal.rows-preserved
rows-preserved c =
    let rows = built_ins-rows (λ row. (row.0.now, built_in_kind row.1)) c.table.result c.table.ensures in
    let more = c.rows-test.true in
    names-go (λ row. row.0.now) c.args.names.now c.rows.names c.insert.new.self c.in_ok-from_str.field-0 c.rows.name-index _
    c.table.result c.in_ok-insert.ensures.updates (omega (arith, rows, more)) c.in_ok-from_str.ensures.ok c.rows.invariant

pub returns : goal.returns
returns c =
    let rows = built_ins-rows (λ row. (row.0.now, built_in_kind row.1)) c.table.result c.table.ensures in
    let past = c.rows-test.false in
    names-end (λ row. (row.0.now, built_in_kind row.1)) c.args.names.now c.rows.names c.rows.name-index c.table.result
    (omega (arith, rows, past)) c.table.ensures c.rows.invariant
