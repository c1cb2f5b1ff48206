use Rattle.handlebars_scope.specs.Contexts.{data_of}
use Rattle.handlebars_template.specs.TreeView.{tree_view}
use Rattle.handlebars.proofs.WritesRead.{reading-compiled, reading-rejected}
use Rattle.handlebars.proofs.Writing.{Appends-nothing}
use Rattle.handlebars.specs.Calls.{AppendsNothing, Writes}
use Rattle.handlebars.proofs.registry.RegistryOf.write_compiled.Goals as goal

pub returns-in-Ok-clause-writes : goal.returns-in-Ok-clause-writes
returns-in-Ok-clause-writes g c =
    reading-compiled AppendsNothing Writes g.E.UserParts.registered g.E.UserParts.user c.args.self.now (data_of c.args.ctx.now) _ _ _ c.in-Ok.read (tree_view c.args.template.now)
    c.in-Ok.ensures.ok c.write_template.ensures

pub returns-in-Err-clause-writes : goal.returns-in-Err-clause-writes
returns-in-Err-clause-writes g c = reading-rejected AppendsNothing Appends-nothing c.args.self.now _ _ _ _ _ c.in-Err.e _ c.in-Err.ensures.err
