use Rattle.handlebars_template.specs.TreeView.{tree_view}
use Rattle.handlebars.proofs.registry.RegistryOf.register_template_string.Goals as goal

pub returns-clause-ok : goal.returns-clause-ok
returns-clause-ok g c = (tree_view c.in_ok-template.template, c.in_ok-template.ensures.ok, c.in_ok-register_template.ensures.ok)
