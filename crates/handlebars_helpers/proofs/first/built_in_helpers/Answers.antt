use Rattle.handlebars_helpers.specs.EntryView.{callees_of}
use Rattle.handlebars_helpers.specs.View.{built_in_kind}
use Rattle.handlebars_helpers.proofs.FirstEntries.{update_all-built_ins, update_all-next_built_in}
use Rattle.handlebars_helpers.proofs.first.built_in_helpers.Goals as goal

pub all-preserved : goal.all-preserved
all-preserved g c = update_all-next_built_in (λ row. (row.0.now, built_in_kind row.1)) c.table.result c.all.name-index _
    (callees_of c.all.helpers) (callees_of c.put.new.helpers) c.table.ensures c.all-test.true c.all.invariant c.in_ok-put.ensures

pub returns : goal.returns
returns g c = update_all-built_ins (λ row. (row.0.now, built_in_kind row.1)) c.table.result c.all.name-index
    (callees_of c.all.helpers) c.table.ensures c.all-test.false c.all.invariant
