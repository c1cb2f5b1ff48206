use Rattle.std.proofs.Common.{◌∙◌}
use Rattle.std.specs.Str.{bytes_eq}
use Rattle.handlebars_template.specs.TreeView.{tree_view}
use Rattle.handlebars.proofs.Loaded.{path_put-none}
use Rattle.handlebars.proofs.Stored.{get_by_text-removed}
use Rattle.handlebars.proofs.registry.RegistryOf.unregister_template.Goals as goal

pub returns-clause-template : goal.returns-clause-template
returns-clause-template g c = get_by_text-removed tree_view c.args.self.now.templates c.remove.new.self c.args.name.now c.remove.ensures.updates

pub returns-clause-file : goal.returns-clause-file
returns-clause-file g c = λ n. c.forget.ensures.gone n ∙ path_put-none c.args.self.now.dev.paths (bytes_eq c.args.name.now n) n
