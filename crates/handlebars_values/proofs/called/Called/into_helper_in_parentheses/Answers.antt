use Rattle.std.proofs.Common.{◌∙◌, ap}
use Rattle.std.specs.Cow.{cow_str_bytes}
use Rattle.handlebars_template.specs.Tree.{call_binding}
use Rattle.handlebars_template.specs.TreeView.{call_view}
use Rattle.handlebars_semantics.specs.Values.{view_without_bodies}
use Rattle.handlebars_values.proofs.called.Called.into_helper_in_parentheses.Goals as goal

pub returns : goal.returns
returns c =
    c.helper_in_parentheses.ensures
    ∙ ap (view_without_bodies (call_binding (call_view c.args.helper.now))) (c.in_ok-passed.ensures (cow_str_bytes c.args.self.name))
