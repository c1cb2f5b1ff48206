use Rattle.std.proofs.Common.{◌∙◌, ap, None}
use Rattle.handlebars_base.specs.PathView.{reference_of}
use Rattle.handlebars_template.specs.Tree.{Param, path}
use Rattle.handlebars_template.specs.TreeView.{arguments_view}
use Rattle.handlebars_template.specs.Calls.{add_argument}
use Rattle.handlebars_template.proofs.Levels.{param_view-Path}
use Rattle.handlebars_template.proofs.template.expression.path_arguments.Goals as goal

pub returns : goal.returns
returns c =
    c.in_ok-add.ensures
    ∙ ap (λ (p : Param). add_argument None p (arguments_view c.new-arguments.result)) (param_view-Path c.args.path)
    ∙ ap (add_argument None (path (reference_of c.args.path))) c.new-arguments.ensures
