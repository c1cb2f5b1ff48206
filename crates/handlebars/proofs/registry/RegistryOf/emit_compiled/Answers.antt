use Rattle.std.proofs.Common.{refl}
use Rattle.handlebars_scope.specs.Contexts.{data_of}
use Rattle.handlebars_template.specs.TreeView.{tree_view}
use Rattle.handlebars.proofs.WritesRead.{reading-compiled, reading-rejected}
use Rattle.handlebars.specs.PieceCalls.{EmitsPieces, EmittedNothing}
use Rattle.handlebars.proofs.registry.RegistryOf.emit_compiled.Goals as goal

pub returns-in-Ok-clause-emits : goal.returns-in-Ok-clause-emits
returns-in-Ok-clause-emits g c =
    reading-compiled EmittedNothing (λ p b. EmitsPieces p b g.O.PieceOutput.may_give) g.E.UserParts.registered g.E.UserParts.user c.args.self.now (data_of c.args.ctx.now) _ _ _ c.in-Ok.read (tree_view c.args.template.now)
    c.in-Ok.ensures.ok c.emit_template.ensures

pub returns-in-Err-clause-emits : goal.returns-in-Err-clause-emits
returns-in-Err-clause-emits g c = reading-rejected EmittedNothing (λ ts. refl) c.args.self.now _ _ _ _ _ c.in-Err.e _ c.in-Err.ensures.err
