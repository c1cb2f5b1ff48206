use Rattle.handlebars_helpers.proofs.Named.{names-go, names-end}
use Rattle.handlebars_helpers.proofs.by_name.ByName.names.Goals as goal

pub entries-preserved : goal.entries-preserved
entries-preserved g c =
    names-go c.entries.names c.insert.new.self c.in_ok-clone.field-0 (c.in-Some.name.now, c.in-Some.field-0-1.now)
    c.entries.name-iterator c.next.new.self c.args.self.now.by_name.entries c.in_ok-insert.ensures.updates
    c.in_ok-clone.ensures.cases c.in-Some.ensures.steps c.entries.invariant

pub returns : goal.returns
returns g c =
    names-end c.entries.names c.entries.name-iterator c.args.self.now.by_name.entries c.in-None.ensures.steps.0 c.entries.invariant
