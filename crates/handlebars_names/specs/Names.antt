-- What names stand for in a registry, as far as the check of names knows.
use Rattle.std.specs.Prelude.{◌≡◌, Bool, true, Option, Some}
use Rattle.handlebars_base.specs.Bytes.{Text}
use Rattle.handlebars_template.specs.Tree.{Tree}
use Rattle.handlebars_helpers.specs.Callee.{Callee}
use Rattle.handlebars_helpers.specs.Decoration.{DecoratorKind}
use Rattle.handlebars_semantics.specs.State.{Parts}

-- What is registered: the helper and the decorator under a name, if there are any; whether a block that has no helper acts on the
-- value of its name; and the names of templates.
pub record Names : Type 0 where
  pub helper : Text → Option Callee
  pub decorator : Text → Option DecoratorKind
  pub sections : Bool
  pub has_template : Text → Bool

-- These parts have the same helpers, decorators and sections, and at least these templates.
pub record AreNames (parts : Parts) (names : Names) : Type 0 where
  pub helpers : (n : Text) → parts.helper n ≡ names.helper n
  pub decorators : (n : Text) → parts.decorator n ≡ names.decorator n
  pub sections : parts.sections ≡ names.sections
  pub templates : (n : Text) → names.has_template n ≡ true → (t : Tree) × (parts.template n ≡ Some t)
