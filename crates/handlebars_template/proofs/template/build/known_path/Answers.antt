use Rattle.std.proofs.Common.{◌∙◌, Some, refl, sym, ap}
use Rattle.handlebars_base.specs.PathView.{reference_of}
use Rattle.handlebars_base.proofs.PathShapes.{path_known}
use Rattle.handlebars_template.proofs.ExpressionsBuilt.{path_of-none}
use Rattle.handlebars_template.proofs.ExpressionCalls.{path_of-name}
use Rattle.handlebars_template.proofs.template.build.known_path.Goals as goal

pub returns-then-is_name : goal.returns-then-is_name
returns-then-is_name c =
    ap Some c.in_ok-name_path.ensures ∙ path_of-name c.args.raw.now (c.requires c.if-is_name.true)

pub returns-in-Some : goal.returns-in-Some
returns-in-Some c =
    sym (path_known c.args.raw.now (reference_of c.in-Some.path) (rw c.in-Some.is at c.in_ok-path.ensures.found))

pub returns-in-None : goal.returns-in-None
returns-in-None c = path_of-none c.args.raw.now ((rw c.in-None.is at c.in_ok-path.ensures.none).0 refl)
