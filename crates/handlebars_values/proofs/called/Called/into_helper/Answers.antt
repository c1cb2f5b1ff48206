use Rattle.std.proofs.Common.{◌∙◌, ap}
use Rattle.std.specs.Cow.{cow_str_bytes}
use Rattle.handlebars_template.specs.TreeView.{call_view}
use Rattle.handlebars_semantics.specs.Execute.{view_with_bodies}
use Rattle.handlebars_values.proofs.called.Called.into_helper.Goals as goal

pub returns : goal.returns
returns c =
    c.helper_of.ensures
    ∙ ap (view_with_bodies c.args.block (call_view c.args.helper.now)) (c.in_ok-passed.ensures (cow_str_bytes c.args.self.name))
