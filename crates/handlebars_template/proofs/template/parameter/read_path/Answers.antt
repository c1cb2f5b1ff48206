use Rattle.std.proofs.Common.{sym, subst}
use Rattle.handlebars_base.specs.PathView.{reference_of}
use Rattle.handlebars_template.specs.Tree.{Param}
use Rattle.handlebars_template.specs.ParameterParsing.{Parses, parsed}
use Rattle.handlebars_template.proofs.Levels.{param_view-Path}
use Rattle.handlebars_template.proofs.ParametersParsed.{parses_path, parses_none}
use Rattle.handlebars_template.proofs.template.parameter.read_path.Goals as goal

pub returns-in-Some : goal.returns-in-Some
returns-in-Some c closed none =
    subst (λ (p : Param). Parses c.args.text.now (parsed p)) (sym (param_view-Path c.in-Some.path))
    (parses_path c.args.text.now (reference_of c.in-Some.path) none (rw c.in-Some.is at c.in_ok-path.ensures))

pub returns-in-None : goal.returns-in-None
returns-in-None c closed none = parses_none c.args.text.now closed none (rw c.in-None.is at c.in_ok-path.ensures)
