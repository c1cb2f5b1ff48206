-- The check of a registry: whether what is registered in it otherwise than at the start may break the rule of data.
use Rattle.std.specs.Prelude.{◌≡◌, ◌≢◌, Bool, false, true, not, ◌||◌, if◌then◌else◌, List, [], ◌∷◌, ◌++◌, map, Option, None, Some}
use Rattle.std.specs.List.{AllByRecursion, flat_map, list_any}
use Rattle.std.specs.Str.{bytes_eq}
use Rattle.handlebars_base.specs.Bytes.{Text}
use Rattle.handlebars_base.specs.Optional.{with_or}
use Rattle.handlebars_helpers.specs.Callee.{Callee, user, first_callee}
use Rattle.handlebars_helpers.specs.Decoration.{DecoratorKind, built_in_decorator}
use Rattle.handlebars_helpers.specs.Escaping.{Escaping, for_html, for_plain, by_user}
use Rattle.handlebars_helpers.specs.SafeUrl.{GivesUrls}
use Rattle.handlebars_helpers.specs.UserHelper.{UserHelper, GivesValues}
use Rattle.handlebars_semantics.specs.State.{Parts, Setting, hook}
use Rattle.handlebars_html.specs.Ascii.{is_one_of}
use Rattle.handlebars_html.specs.Rule.{Registered, as_first, user_values, user_urls}
use Rattle.handlebars_html.specs.Usual.{IsUsual}
use Rattle.handlebars_html.specs.Faults.{Why, other_escape, helper_with_steps, misplaced_helper, user_hook, user_decorator, Fault, faults_at, unless}

-- ---- what is registered otherwise than at the start

-- What is registered under the name of a helper: a user-defined helper that is known to give values alone, each of which is written
-- as an address that runs no script; one that is known to give values alone; another user-defined helper; or what is misplaced: a
-- built-in helper under another name than its own, or nothing under the name of one.
pub data OtherKind : Type 0 where
  gives_urls : OtherKind
  gives_values : OtherKind
  may_have_steps : OtherKind
  misplaced : OtherKind

-- what differs in a registry from what every registry begins with: how values are escaped; the names of helpers, each with what
-- is registered under it; and the names of decorators
pub record UserDefined : Type 0 where
  pub escape : Escaping
  pub helpers : List (Text × OtherKind)
  pub decorators : List Text

-- whether a helper is listed under this name
abbrev pub is_listed : List (Text × OtherKind) → Text → Bool
is_listed xs n = list_any (λ (x : Text × OtherKind). bytes_eq x.0 n) xs

-- What is listed is user-defined, and gives values, or it is a fault.
abbrev pub registered_as : OtherKind → Registered
registered_as gives_urls = user_urls
registered_as gives_values = user_values
registered_as may_have_steps = user_values
registered_as misplaced = user_values

-- what is registered under this name, by what is listed first under it
abbrev pub registered_among : List (Text × OtherKind) → Text → Registered
registered_among [] n = as_first
registered_among (x ∷ xs) n = if bytes_eq x.0 n then registered_as x.1 else registered_among xs n

abbrev pub registered_in : UserDefined → Text → Registered
registered_in r n = registered_among r.helpers n

-- whether something holds
abbrev pub HoldsIf : Bool → Type 0 → Type 0
HoldsIf true X = X
HoldsIf false X = X → ⊥

module _ (helper : Text → Option Callee) (users : Text → UserHelper) where
  -- What is registered under this name is of this kind.
  abbrev pub IsOther : Text → OtherKind → Type 0
  IsOther n gives_urls = (helper n ≡ Some (user n)) × GivesUrls (users n)
  IsOther n gives_values = (helper n ≡ Some (user n)) × GivesValues (users n)
  IsOther n may_have_steps = helper n ≡ Some (user n)
  IsOther n misplaced = (helper n ≢ Some (user n)) × (helper n ≢ first_callee n)

  -- It is of this kind, or what every registry begins with.
  abbrev pub IsOtherOrFirst : Text → Option OtherKind → Type 0
  IsOtherOrFirst n None = helper n ≡ first_callee n
  IsOtherOrFirst n (Some k) = IsOther n k

  -- What is registered under this name is added to what is listed, unless it is what every registry begins with.
  abbrev pub AddsHelper : Text → List (Text × OtherKind) → List (Text × OtherKind) → Type 0
  AddsHelper n before after =
      (k : Option OtherKind) × IsOtherOrFirst n k × (after ≡ with_or k (λ x. before ++ (n, x) ∷ []) before)

  -- Each name is listed under which another helper is registered than at the start, with its kind, and only those are.
  pub record ListsHelpers (xs : List (Text × OtherKind)) : Type 0 where
    pub listed : AllByRecursion (λ (x : Text × OtherKind). IsOther x.0 x.1) xs
    pub others : (n : Text) → is_listed xs n ≡ false → helper n ≡ first_callee n

-- The name is added to what is listed, unless the decorator under it is what every registry begins with.
abbrev pub AddsDecorator : (Text → Option DecoratorKind) → Text → List Text → List Text → Type 0
AddsDecorator kind n before after =
    (b : Bool) × HoldsIf b (kind n ≡ built_in_decorator n) × (after ≡ if b then before else before ++ n ∷ [])

-- Each name is listed under which another decorator is registered than at the start, and only those are.
pub record ListsDecorators (kind : Text → Option DecoratorKind) (ns : List Text) : Type 0 where
  pub listed : AllByRecursion (λ n. kind n ≢ built_in_decorator n) ns
  pub others : (n : Text) → is_one_of ns n ≡ false → kind n ≡ built_in_decorator n

-- what differs in a registry of which these are the helpers, the decorators and the escape
pub record ListsOf (helper : Text → Option Callee) (users : Text → UserHelper) (kind : Text → Option DecoratorKind)
    (escape : Escaping) (r : UserDefined) : Type 0 where
  pub escape_is : escape ≡ r.escape
  pub helpers : ListsHelpers helper users r.helpers
  pub decorators : ListsDecorators kind r.decorators

-- All that differs in these parts is listed, and nothing else.
abbrev pub Lists : Parts → UserDefined → Type 0
Lists p r = ListsOf p.helper p.user p.decorator p.escape r

-- ---- faults

-- Values are escaped for html, or that is a fault.
abbrev pub whys_of_escape : Escaping → List Why
whys_of_escape for_html = []
whys_of_escape for_plain = other_escape ∷ []
whys_of_escape by_user = other_escape ∷ []

-- whether it is the name of a hook
abbrev pub is_hook : Text → Bool
is_hook n = bytes_eq (hook false) n || bytes_eq (hook true) n

-- A user-defined helper is no hook, or that is a fault.
abbrev pub whys_of_hook : Text → List Why
whys_of_hook n = unless (not (is_hook n)) (user_hook n)

-- A user-defined helper gives values alone, and nothing is misplaced, or that is a fault.
abbrev pub whys_of_kind : Text → OtherKind → List Why
whys_of_kind n gives_urls = whys_of_hook n
whys_of_kind n gives_values = whys_of_hook n
whys_of_kind n may_have_steps = helper_with_steps n ∷ whys_of_hook n
whys_of_kind n misplaced = misplaced_helper n ∷ []

abbrev pub whys_of_helper : Text × OtherKind → List Why
whys_of_helper x = whys_of_kind x.0 x.1

-- by the escape, the helpers and the decorators; in no template, and at no position
abbrev pub faults_of_registry : UserDefined → List Fault
faults_of_registry r =
    faults_at None None (whys_of_escape r.escape ++ (flat_map whys_of_helper r.helpers ++ map (λ n. user_decorator n) r.decorators))

-- ---- the law

-- A registry without faults escapes for html and has usual parts.
abbrev pub HasUsualParts : Setting → Type 0
HasUsualParts p =
    (r : UserDefined) → Lists p.parts r → faults_of_registry r ≡ [] → (p.parts.escape ≡ for_html) × IsUsual p (registered_in r)
