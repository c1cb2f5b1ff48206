-- A registry in which the check finds no fault has usual parts.
use Rattle.std.proofs.Common.{◌≡◌, Bool, true, false, if◌then◌else◌, not, ◌||◌, List, [], ◌∷◌, ◌++◌, map, refl, sym, ap, ◌∙◌, subst}
use Rattle.std.specs.List.{AllByRecursion, flat_map}
use Rattle.std.specs.Str.{bytes_eq}
use Rattle.handlebars_base.specs.Bytes.{Text}
use Rattle.handlebars_helpers.specs.Callee.{first_callee}
use Rattle.handlebars_helpers.specs.Escaping.{Escaping, for_html, for_plain, by_user}
use Rattle.handlebars_semantics.specs.State.{Setting, hook}
use Rattle.handlebars_html.specs.Ascii.{is_one_of}
use Rattle.handlebars_html.specs.Rule.{as_first}
use Rattle.handlebars_html.specs.Usual.{HelperIs}
use Rattle.handlebars_html.specs.Faults.{Why, user_hook, user_decorator}
use Rattle.handlebars_html.specs.Registry.{OtherKind, gives_urls, gives_values, may_have_steps, misplaced, IsOther, is_listed, registered_as, registered_among, registered_in, whys_of_escape, is_hook, whys_of_hook, whys_of_kind, whys_of_helper, HasUsualParts}
use Rattle.handlebars_html.proofs.CleanFindings.{text-is, text-self}
use Rattle.handlebars_html.proofs.StateLists.{true-false, not-true, All-map, empty-first, empty-later, empty-of_map, empty-of_flat, unless-true}

escape-is : (e : Escaping) → whys_of_escape e ≡ [] → e ≡ for_html
escape-is for_html none = refl
escape-is for_plain none = cc
escape-is by_user none = cc

or-false : (x y : Bool) → (x || y) ≡ false → (x ≡ false) × (y ≡ false)
or-false true y is = cc
or-false false y is = (refl, is)

-- what is said of each listed helper
abbrev HasHelper : Setting → Text × OtherKind → Type 0
HasHelper p x = IsOther p.parts.helper p.parts.user x.0 x.1

abbrev GivesKind : OtherKind → Type 0
GivesKind gives_urls = Unit {0}
GivesKind gives_values = Unit {0}
GivesKind may_have_steps = ⊥
GivesKind misplaced = ⊥

-- A listed helper gives values and is no hook.
abbrev IsPlain : Text × OtherKind → Type 0
IsPlain x = GivesKind x.1 × (is_hook x.0 ≡ false)

no-hook : (n : Text) → whys_of_hook n ≡ [] → is_hook n ≡ false
no-hook n none = not-true (is_hook n) (unless-true (not (is_hook n)) (user_hook n) none)

kind-plain : (n : Text) (k : OtherKind) → whys_of_kind n k ≡ [] → GivesKind k × (is_hook n ≡ false)
kind-plain n gives_urls none = (tt, no-hook n none)
kind-plain n gives_values none = (tt, no-hook n none)
kind-plain n may_have_steps none = cc
kind-plain n misplaced none = cc

helper-plain : (x : Text × OtherKind) → whys_of_helper x ≡ [] → IsPlain x
helper-plain x none = kind-plain x.0 x.1 none

-- what holds of each listed helper holds of one of this name
listed-has : (P : Text × OtherKind → Type 0) (xs : List (Text × OtherKind)) → AllByRecursion P xs → (n : Text) → is_listed xs n ≡ true
    → (x : Text × OtherKind) × (x.0 ≡ n) × P x
listed-has P [] all n is = cc
listed-has P (x ∷ xs) all n is = by (bytes_eq x.0 n) (text-is x.0 n) is (listed-has P xs all.1 n)
  where
    by : (b : Bool) → (b ≡ true → x.0 ≡ n) → (b || is_listed xs n) ≡ true
        → (is_listed xs n ≡ true → (y : Text × OtherKind) × (y.0 ≡ n) × P y) → (y : Text × OtherKind) × (y.0 ≡ n) × P y
    by true to is rest = (x, to refl, all.0)
    by false to is rest = rest is

-- what isn't listed is as at the start
unlisted-first : (xs : List (Text × OtherKind)) (n : Text) → is_listed xs n ≡ false → registered_among xs n ≡ as_first
unlisted-first [] n is = refl
unlisted-first (x ∷ xs) n is =
    let parts = or-false (bytes_eq x.0 n) (is_listed xs n) is in
    ap (λ (b : Bool). if b then registered_as x.1 else registered_among xs n) parts.0 ∙ unlisted-first xs n parts.1

unlisted : (xs : List (Text × OtherKind)) → AllByRecursion IsPlain xs → (block : Bool)
    → registered_among xs (hook block) ≡ as_first
unlisted xs all block = unlisted-first xs (hook block) (by (is_listed xs (hook block)) refl)
  where
    no_hook : (block : Bool) (m : Text) → m ≡ hook block → is_hook m ≡ false → ⊥
    no_hook true m same is =
        true-false (sym (text-self (hook true)) ∙ ap (λ (z : Text). bytes_eq (hook true) z) (sym same)
        ∙ (or-false (bytes_eq (hook false) m) (bytes_eq (hook true) m) is).1)
    no_hook false m same is =
        true-false (sym (text-self (hook false)) ∙ ap (λ (z : Text). bytes_eq (hook false) z) (sym same)
        ∙ (or-false (bytes_eq (hook false) m) (bytes_eq (hook true) m) is).0)

    by : (b : Bool) → is_listed xs (hook block) ≡ b → is_listed xs (hook block) ≡ false
    by true e = let there = listed-has IsPlain xs all (hook block) e in absurd (no_hook block there.0.0 there.1 there.2.1)
    by false e = e

pub has_usual_parts : (p : Setting) → HasUsualParts p
has_usual_parts p r lists none = (
  lists.escape_is ∙ escape-is r.escape of_escape,
  record {
    helpers = helper;
    hooks = unlisted r.helpers plain;
    decorators = λ n. lists.decorators.others n (ap (λ (ds : List Text). is_one_of ds n) no_decorators);
  },
)
  where
    rest : List Why
    rest = flat_map whys_of_helper r.helpers ++ map (λ n. user_decorator n) r.decorators

    whys_none : whys_of_escape r.escape ++ rest ≡ []
    whys_none = empty-of_map _ (whys_of_escape r.escape ++ rest) none

    of_escape : whys_of_escape r.escape ≡ []
    of_escape = empty-first (whys_of_escape r.escape) rest whys_none

    rest_none : rest ≡ []
    rest_none = empty-later (whys_of_escape r.escape) rest whys_none

    plain : AllByRecursion IsPlain r.helpers
    plain = All-map (λ x. whys_of_helper x ≡ []) IsPlain helper-plain r.helpers
        (empty-of_flat whys_of_helper r.helpers
        (empty-first (flat_map whys_of_helper r.helpers) (map (λ n. user_decorator n) r.decorators) rest_none))

    no_decorators : r.decorators ≡ []
    no_decorators = empty-of_map (λ n. user_decorator n) r.decorators
        (empty-later (flat_map whys_of_helper r.helpers) (map (λ n. user_decorator n) r.decorators) rest_none)

    of_kind : (n : Text) (k : OtherKind) → GivesKind k → IsOther p.parts.helper p.parts.user n k → HelperIs p (registered_as k) n
    of_kind n gives_urls is has = (n, has.0, has.1)
    of_kind n gives_values is has = (n, has.0, has.1)
    of_kind n may_have_steps is has = absurd is
    of_kind n misplaced is has = absurd is

    -- of each listed helper, by the first that is listed under the name
    helper_in : (xs : List (Text × OtherKind)) → AllByRecursion (HasHelper p) xs → AllByRecursion IsPlain xs → (n : Text)
        → (is_listed xs n ≡ false → p.parts.helper n ≡ first_callee n) → HelperIs p (registered_among xs n) n
    helper_in [] all others n first = first refl
    helper_in (x ∷ xs) all others n first =
        by (bytes_eq x.0 n) (text-is x.0 n) first (of_kind x.0 x.1 others.0.0 all.0) (helper_in xs all.1 others.1 n)
      where
        by : (b : Bool) → (b ≡ true → x.0 ≡ n) → ((b || is_listed xs n) ≡ false → p.parts.helper n ≡ first_callee n)
            → HelperIs p (registered_as x.1) x.0
            → ((is_listed xs n ≡ false → p.parts.helper n ≡ first_callee n) → HelperIs p (registered_among xs n) n)
            → HelperIs p (if b then registered_as x.1 else registered_among xs n) n
        by true to first here later = subst (HelperIs p (registered_as x.1)) (to refl) here
        by false to first here later = later first

    helper : (n : Text) → HelperIs p (registered_in r n) n
    helper n = helper_in r.helpers lists.helpers.listed plain n (lists.helpers.others n)
