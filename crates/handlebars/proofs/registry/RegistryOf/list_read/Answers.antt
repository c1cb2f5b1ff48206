use Rattle.handlebars.specs.Files.{overlaid_on, tree_in}
use Rattle.handlebars.specs.View.{stored_tree}
use Rattle.handlebars.proofs.HtmlTemplates.{names-next, names-end}
use Rattle.handlebars.proofs.registry.RegistryOf.list_read.Goals as goal

pub names-preserved : goal.names-preserved
names-preserved g c =
    names-next (overlaid_on (tree_in c.args.read.now) (stored_tree c.args.self.now))
    c.args.templates.now.items _ c.names.templates.items c.list_named.new.templates.items
    c.names.name-iterator c.next.new.self (c.in-Some.name.now, c.in-Some.field-0-1.now) c.as_str.result.now
    c.in-Some.ensures.steps c.as_str.ensures.value c.names.invariant c.in_ok-list_named.ensures

pub returns : goal.returns
returns g c =
    names-end (overlaid_on (tree_in c.args.read.now) (stored_tree c.args.self.now)) c.args.templates.now.items _
    c.names.templates.items c.names.name-iterator c.in-None.ensures.steps.0 c.names.invariant
