-- What the entries under names of decorators stand for.
use Rattle.std.specs.Prelude.{List, Option, Some, None, option_map}
use Rattle.handlebars_base.specs.Answers.{Answer}
use Rattle.handlebars_base.specs.Bytes.{Text}
use Rattle.handlebars_helpers.specs.ByNameView.{entry_at}
use Rattle.handlebars_helpers.specs.Decoration.{Action, DecoratorKind, kind_inline, kind_user}
use Rattle.handlebars_helpers.specs.UserDecorator.{UserDecorator, DecoratorQuestion, no_user_decorator}
use Rattle.handlebars_helpers.specs.declared.by_name.ByName.{ByName}
use Rattle.handlebars_helpers.specs.declared.decorators.entry.DecoratorEntryOf.{DecoratorEntryOf}
use Rattle.handlebars_helpers.specs.declared.decorators.entry.DecoratorEntryOf.TheVariants.{Inline, Own, Function}

module _ {D G : Type 0} where
  -- what an entry under this name is
  abbrev pub entry_kind : Text → DecoratorEntryOf D G → DecoratorKind
  entry_kind name Inline = kind_inline
  entry_kind name (Own d) = kind_user name
  entry_kind name (Function f) = kind_user name

  -- the decorator under a name, if there is one
  abbrev pub decorators_of : ByName (DecoratorEntryOf D G) → Text → Option DecoratorKind
  decorators_of decorators name = option_map (entry_kind name) (entry_at decorators name)

  -- What the user-defined decorator under this name answers, given what the stored ones answer.
  module _ (has_actions : D → DecoratorQuestion → Answer (List Action) → Type 0)
      (function_actions : G → DecoratorQuestion → Answer (List Action) → Type 0) where
    abbrev pub user_decorator_at : Text → Option (DecoratorEntryOf D G) → UserDecorator
    user_decorator_at name None = no_user_decorator name
    user_decorator_at name (Some Inline) = no_user_decorator name
    user_decorator_at name (Some (Own d)) = has_actions d
    user_decorator_at name (Some (Function f)) = function_actions f
