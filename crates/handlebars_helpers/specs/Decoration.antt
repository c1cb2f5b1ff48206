-- The decorators that every registry begins with, by their names, and what decorators do.
use Rattle.std.specs.Prelude.{List, [], ◌∷◌, Option, codes}
use Rattle.std.specs.Map.{lookup}
use Rattle.std.specs.Str.{bytes_eq}
use Rattle.serde_json.specs.Data.{Data, null, boolean, number, string, array, object}
use Rattle.handlebars_base.specs.Answers.{Answer, gives, fails_for}
use Rattle.handlebars_base.specs.Bytes.{Text}
use Rattle.handlebars_base.specs.Reasons.{invalid_param_type, block_content_required}
use Rattle.handlebars_base.specs.Scoped.{data_in}
use Rattle.handlebars_template.specs.Tree.{Tree, Body, no_body, body}
use Rattle.handlebars_helpers.specs.CallView.{CallView}
use Rattle.handlebars_helpers.specs.Callee.{LocalHelper}
use Rattle.handlebars_helpers.specs.Params.{by_param}

-- `inline`, or a user-defined decorator, by its name
pub data DecoratorKind : Type 0 where
  kind_inline : DecoratorKind
  kind_user : Text → DecoratorKind

-- the decorators that every registry begins with
abbrev pub built_in_decorators : List (Text × DecoratorKind)
built_in_decorators = (codes "inline", kind_inline) ∷ []

-- the built-in decorator of a name
abbrev pub built_in_decorator : Text → Option DecoratorKind
built_in_decorator name = lookup (bytes_eq name) built_in_decorators

-- The view of a tag, of a decorator or of an inclusion: its name and its values, its body, and its indentation, which is the
-- one in force followed by the tag's own.
pub record DecoratorView : Type 0 where
  pub call : CallView
  pub body : Body
  pub indent : Option Text

-- An action of a decorator: the data is changed; a name is bound to a local helper; it is unbound; or the body of the tag is
-- made a partial of the nearest scope frame, under a name.
pub data Action : Type 0 where
  sets_data : Data → Action
  binds : Text → LocalHelper → Action
  unbinds : Text → Action
  sets_partial : Text → Action

-- ---- `inline`

-- By a string. Any other value fails with `invalid_param_type`.
abbrev pub by_text : {A : Type 0} → Data → (Text → Answer A) → Answer A
by_text null f = fails_for (invalid_param_type (codes "String"))
by_text (boolean b) f = fails_for (invalid_param_type (codes "String"))
by_text (number n) f = fails_for (invalid_param_type (codes "String"))
by_text (string s) f = f s
by_text (array ds) f = fails_for (invalid_param_type (codes "String"))
by_text (object ms) f = fails_for (invalid_param_type (codes "String"))

-- By the body. A tag without one fails with `block_content_required`.
abbrev pub by_body : {A : Type 0} → Body → (Tree → Answer A) → Answer A
by_body no_body f = fails_for block_content_required
by_body (body t) f = f t

-- The first parameter is the name of a partial, and the body of the tag is the partial.
abbrev pub inline_actions : DecoratorView → Answer (List Action)
inline_actions v =
    by_param (codes "inline") 0 v.call (λ p. by_text (data_in p.found) (λ name. by_body v.body (λ t.
    gives (sets_partial name ∷ []))))
