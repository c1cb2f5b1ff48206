-- Settings of which the laws of rules speak: a registry with the helpers and the decorators that every registry begins with,
-- and with user-defined helpers that give values.
use Rattle.std.specs.Prelude.{◌≡◌, Bool, Some}
use Rattle.handlebars_base.specs.Bytes.{Text}
use Rattle.handlebars_template.specs.Tree.{Tree}
use Rattle.handlebars_helpers.specs.Callee.{user, first_callee}
use Rattle.handlebars_helpers.specs.Decoration.{built_in_decorator}
use Rattle.handlebars_helpers.specs.SafeUrl.{GivesUrls}
use Rattle.handlebars_helpers.specs.UserHelper.{GivesValues}
use Rattle.handlebars_semantics.specs.State.{Setting, hook}
use Rattle.handlebars_html.specs.Rule.{Rule, Registered, as_first, user_values, user_urls, Table, Leads}

-- This is registered under a name.
abbrev pub HelperIs : Setting → Registered → Text → Type 0
HelperIs p as_first n = p.parts.helper n ≡ first_callee n
HelperIs p user_values n = (k : Text) × (p.parts.helper n ≡ Some (user k)) × GivesValues (p.parts.user k)
HelperIs p user_urls n = (k : Text) × (p.parts.helper n ≡ Some (user k)) × GivesUrls (p.parts.user k)

-- These are the helpers. None is user-defined under the name of a hook. No user-defined decorator is registered.
pub record IsUsual (p : Setting) (registered : Text → Registered) : Type 0 where
  pub helpers : (n : Text) → HelperIs p (registered n) n
  pub hooks : (block : Bool) → registered (hook block) ≡ as_first
  pub decorators : (n : Text) → p.parts.decorator n ≡ built_in_decorator n

-- Each registered template leads as the table has it.
abbrev pub IsClosed : Setting → (rule : Rule) → Table rule → Type 0
IsClosed p rule table = (n : Text) (t : Tree) → p.parts.template n ≡ Some t → (h : rule.Known) → table.enters n h
    → Leads rule table t h (table.leaves n h)
