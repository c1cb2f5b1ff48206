-- What the code's values of decorators stand for.
use Rattle.std.specs.Prelude.{Bool, List, map, Option, option_map, string_bytes, Vec}
use Rattle.std.specs.Borrow.{Bor}
use Rattle.std.specs.declared.alloc.Global.{Global}
use Rattle.std.specs.Cow.{cow_str_bytes}
use Rattle.handlebars_base.specs.Bytes.{Text}
use Rattle.handlebars_base.specs.PathAndData.{path_and_data}
use Rattle.handlebars_template.specs.TreeView.{tree_view, body_of}
use Rattle.handlebars_scope.specs.Contexts.{data_of}
use Rattle.handlebars_scope.specs.declared.context.Context.{Context}
use Rattle.serde_json.specs.View.{view}
use Rattle.handlebars_helpers.specs.Decoration.{DecoratorKind, kind_inline, kind_user, DecoratorView, Action, sets_data, binds, unbinds, sets_partial}
use Rattle.handlebars_helpers.specs.UserDecorator.{DecoratorQuestion}
use Rattle.handlebars_helpers.specs.declared.decorators.DecoratorKind as declared
use Rattle.handlebars_helpers.specs.declared.decorators.DecoratorKind.TheVariants as kind
use Rattle.handlebars_helpers.specs.declared.decorators.DecoratorStep.{DecoratorStep}
use Rattle.handlebars_helpers.specs.declared.decorators.DecoratorStep.TheVariants.{SetContext, BindHelper, UnbindHelper, SetLocalPartial}
use Rattle.handlebars_helpers.specs.declared.decorators.view.Decorator.{Decorator}

-- what a tag passes to its decorator
abbrev pub tag_view : Decorator → DecoratorView
tag_view d = record {
  call = record {
    name = cow_str_bytes d.name;
    params = map path_and_data d.params.items;
    hash = map (λ e. (e.0.now, path_and_data e.1)) d.hash.entries;
  };
  body = body_of (option_map (λ t. tree_view t.now) d.template);
  indent = option_map cow_str_bytes d.indent;
}

-- what is registered under this name
abbrev pub decorator_called : Text → declared.DecoratorKind → DecoratorKind
decorator_called name kind.Inline = kind_inline
decorator_called name kind.User = kind_user name

abbrev pub action_of : DecoratorStep → Action
action_of (SetContext c) = sets_data (data_of c)
action_of (BindHelper local registered constants) =
    binds (string_bytes local) (record { registered = string_bytes registered; constants = map view constants.items })
action_of (UnbindHelper local) = unbinds (string_bytes local)
action_of (SetLocalPartial name) = sets_partial (string_bytes name)

abbrev pub actions_view : Vec DecoratorStep Global → List Action
actions_view steps = map action_of steps.items

-- what a decorator is called with, by the arguments of the code
abbrev pub decorator_question_of : Decorator → Context → Option (Bor Context) → Bool → DecoratorQuestion
decorator_question_of d given changed strict = record {
  view = tag_view d;
  given = data_of given;
  changed = option_map (λ c. data_of c.now) changed;
  strict = strict;
}
