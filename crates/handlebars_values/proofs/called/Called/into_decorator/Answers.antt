use Rattle.std.proofs.Common.{ap, ◌∙◌, option_map}
use Rattle.std.specs.Cow.{cow_str_bytes}
use Rattle.handlebars_template.specs.Tree.{decorator_body}
use Rattle.handlebars_template.specs.TreeView.{decorator_view}
use Rattle.handlebars_helpers.specs.CallView.{CallView}
use Rattle.handlebars_semantics.specs.Inclusion.{joined_indent}
use Rattle.handlebars_expand.proofs.Tags.{indent-seen, tag_of}
use Rattle.handlebars_values.specs.View.{called_view}
use Rattle.handlebars_values.proofs.called.Called.into_decorator.Goals as goal

pub returns : goal.returns
returns c =
    c.decorator_of.ensures
    ∙ ap (λ (v : CallView). tag_of v (decorator_body (decorator_view c.args.tag.now)) (option_map cow_str_bytes c.in_ok-indent.indent))
    (c.in_ok-passed.ensures (cow_str_bytes c.args.self.name))
    ∙ ap (tag_of (called_view c.args.self) (decorator_body (decorator_view c.args.tag.now))) (c.in_ok-indent.ensures
    ∙ ap (joined_indent (option_map (λ t. t.now) c.args.in_force)) (indent-seen c.args.tag.now c.as_ref.result c.as_ref.ensures.value))
