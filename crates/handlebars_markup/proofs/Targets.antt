-- What calls call in states that are equal up to texts: the same, and it is blind.
use Rattle.std.proofs.Common.{◌≡◌, Bool, true, false, Option, None, Some, option_map, if◌then◌else◌, refl, sym, ap, ◌∙◌, subst}
use Rattle.handlebars_base.specs.Answers.{gives, fails_for}
use Rattle.handlebars_base.specs.Bytes.{Text}
use Rattle.handlebars_base.specs.Optional.{with_or}
use Rattle.handlebars_base.specs.Reasons.{decorator_not_found, missing_variable}
use Rattle.handlebars_base.specs.RenderRefusals.{plain_refusal}
use Rattle.handlebars_template.specs.Tree.{Param, as_name}
use Rattle.handlebars_scope.specs.Resolve.{or_else}
use Rattle.handlebars_helpers.specs.Callee.{Callee, Target, calls_registered, calls_local}
use Rattle.handlebars_helpers.specs.Decoration.{DecoratorKind}
use Rattle.handlebars_semantics.specs.Questions.{decorator_or_refusal, hook_or_refusal}
use Rattle.handlebars_semantics.specs.State.{Parts, State, hook, registered_target, helper_named, helper_for}
use Rattle.handlebars_markup.specs.Blind.{is_blind_callee, is_blind_decorator, calls_blind, decorates_blind, HasBlindParts}
use Rattle.handlebars_markup.specs.TwoRuns.{registrations}
use Rattle.handlebars_markup.proofs.Alikeness.{AreAlikeAnswers}
use Rattle.handlebars_markup.proofs.States.{AreAlikeStates}

-- what is registered is blind, if anything is
abbrev pub IsBlindTarget : Option Target → Type 0
IsBlindTarget None = Unit {0}
IsBlindTarget (Some (calls_registered k)) = is_blind_callee k ≡ true
IsBlindTarget (Some (calls_local n)) = ⊥

abbrev pub AreSameTargets : Option Target → Option Target → Type 0
AreSameTargets x y = (x ≡ y) × IsBlindTarget x

abbrev pub IsSameTarget : Target → Target → Type 0
IsSameTarget x y = (x ≡ y) × IsBlindTarget (Some x)

-- ---- what is registered

option_map-blind : (o : Option Callee) → with_or o is_blind_callee true ≡ true
    → IsBlindTarget (option_map (λ k. calls_registered k) o)
option_map-blind None is = tt
option_map-blind (Some k) is = is

registered_target-blind : (p : Parts) (n : Text) → calls_blind (registrations p) n ≡ true
    → IsBlindTarget (registered_target p n)
registered_target-blind p n is = option_map-blind (p.helper n) is

or_else-blind : (o q : Option Target) → IsBlindTarget o → IsBlindTarget q → IsBlindTarget (or_else o q)
or_else-blind None q h k = k
or_else-blind (Some x) q h k = h

-- ---- by names

module _ (p : Parts) (s t : State) (h : AreAlikeStates (registrations p) s t) where
  -- There are no local helpers.
  helper_named-registered : (n : Text) → helper_named p s n ≡ registered_target p n
  helper_named-registered n =
      ap (λ o. or_else (option_map (λ l. calls_local n) o) (registered_target p n)) (h.no_local n)

  helper_named-registered_too : (n : Text) → helper_named p t n ≡ registered_target p n
  helper_named-registered_too n =
      ap (λ o. or_else (option_map (λ l. calls_local n) o) (registered_target p n)) (h.no_local_too n)

  pub helper_named-alike : (n m : Text) → n ≡ m → calls_blind (registrations p) n ≡ true
      → AreSameTargets (helper_named p s n) (helper_named p t m)
  helper_named-alike n m same is = (
    helper_named-registered n ∙ ap (registered_target p) same ∙ sym (helper_named-registered_too m),
    subst IsBlindTarget (sym (helper_named-registered n)) (registered_target-blind p n is),
  )

  module _ (blind : HasBlindParts (registrations p)) where
    pub helper_for-alike : (block : Bool) (n m : Text) → n ≡ m → calls_blind (registrations p) n ≡ true
        → AreSameTargets (helper_for p s block n) (helper_for p t block m)
    helper_for-alike block n m same is =
        let named = helper_named-alike n m same is in (
          ap (λ o. or_else o (registered_target p (hook block))) named.0,
          or_else-blind (helper_named p s n) (registered_target p (hook block)) named.1
              (registered_target-blind p (hook block) (blind.hooks block)),
        )

pub hook_or_refusal-alike : (p : Parts) → HasBlindParts (registrations p) → (q : Param)
    → AreAlikeAnswers AreSameTargets (hook_or_refusal p q) (hook_or_refusal p q)
hook_or_refusal-alike p blind q = by p.strict
  where
    by : (b : Bool) → AreAlikeAnswers AreSameTargets
        (if b then fails_for (missing_variable (as_name q)) else gives (registered_target p (hook false)))
        (if b then fails_for (missing_variable (as_name q)) else gives (registered_target p (hook false)))
    by true = refl
    by false = (refl, registered_target-blind p (hook false) (blind.hooks false))

-- ---- decorators

-- the same decorator, which is blind
abbrev pub IsSameDecorator : DecoratorKind → DecoratorKind → Type 0
IsSameDecorator k l = (k ≡ l) × (is_blind_decorator k ≡ true)

decorator_or_refusal-same : (n m : Text) (o : Option DecoratorKind) → n ≡ m → with_or o is_blind_decorator true ≡ true
    → AreAlikeAnswers IsSameDecorator (decorator_or_refusal n o) (decorator_or_refusal m o)
decorator_or_refusal-same n m None same is = ap (λ (z : Text). plain_refusal (decorator_not_found z)) same
decorator_or_refusal-same n m (Some k) same is = (refl, is)

pub decorator_or_refusal-alike : (p : Parts) (n m : Text) → n ≡ m → decorates_blind (registrations p) n ≡ true
    → AreAlikeAnswers IsSameDecorator (decorator_or_refusal n (p.decorator n)) (decorator_or_refusal m (p.decorator m))
decorator_or_refusal-alike p n m same is =
    subst (λ (o : Option DecoratorKind). AreAlikeAnswers IsSameDecorator (decorator_or_refusal n (p.decorator n))
    (decorator_or_refusal m o)) (ap p.decorator same) (decorator_or_refusal-same n m (p.decorator n) same is)
