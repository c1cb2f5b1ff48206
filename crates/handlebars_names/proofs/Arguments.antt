-- Where nothing is wrong with the names of a tag and of its arguments, it fails only for what is still possible.
use Rattle.std.proofs.Common.{◌≡◌, ℕ, zero, suc, Bool, true, false, if◌then◌else◌, List, [], ◌∷◌, ◌++◌, refl, sym, ap, ◌∙◌, subst, Option, None, Some, option_map}
use Rattle.handlebars_base.specs.Answers.{Answer, gives, fails}
use Rattle.handlebars_base.specs.Bytes.{Text}
use Rattle.handlebars_base.specs.PathAndData.{PathAndData}
use Rattle.handlebars_base.specs.Reasons.{Refusal}
use Rattle.handlebars_template.specs.Tree.{Element, escaped_expression, call, Args, args, args_params, Param, name, path, literal, subexpression, Params, no_params, param, Hash, no_hash, hash_pair}
use Rattle.handlebars_scope.specs.Resolve.{or_else}
use Rattle.handlebars_helpers.specs.Callee.{Callee, built, user, LocalHelper, Target, calls_registered, calls_local}
use Rattle.handlebars_helpers.specs.CallView.{CallView, HelperView}
use Rattle.handlebars_helpers.specs.Choice.{BuiltInKind, built_in_choice}
use Rattle.handlebars_helpers.specs.UserHelper.{not_offered, offers_missing, offers}
use Rattle.handlebars_semantics.specs.Asks.{goes_on, first_fails}
use Rattle.handlebars_semantics.specs.Questions.{view_of, IsAnswered}
use Rattle.handlebars_semantics.specs.State.{Setting, State, hook, helper_named, helper_for, registered_target}
use Rattle.handlebars_semantics.specs.Values.{choice_value, helper_question, view_without_bodies, HasHelpedValue, HasName, HasValue, HasInnerValue, HaveValues, HashHasValues, path_value}
use Rattle.handlebars_html.specs.Rule.{written_name}
use Rattle.handlebars_names.specs.Faults.{Why, missing_helper, missing_params}
use Rattle.handlebars_names.specs.Law.{IsStillPossible, for_steps, for_offer}
use Rattle.handlebars_names.specs.Names.{Names, AreNames}
use Rattle.handlebars_names.specs.Whys.{needed_params, has_params, whys_of_params, by_written_name, whys_of_helper, whys_of_name, whys_of_param, whys_of_inner, whys_of_list, whys_of_hash, whys_of_args}
use Rattle.handlebars_names.proofs.Failing.{served-fails, map-served, built_in-served, path_value-served, HasValues}

-- ---- lists without an element

pub both-empty : {A : Type 0} (xs ys : List A) → xs ++ ys ≡ [] → (xs ≡ []) × (ys ≡ [])
both-empty [] ys is = (refl, is)
both-empty (x ∷ xs) ys is = cc

pub never-one : {A P : Type 0} {x : A} → x ∷ [] ≡ [] → P
never-one is = cc

pub params-there : (n : Text) (kind : BuiltInKind) (ps : Params) → whys_of_params n kind ps ≡ []
    → has_params (needed_params kind) ps ≡ true
params-there n kind ps is = by (has_params (needed_params kind) ps) refl is
  where
    by : (b : Bool) → has_params (needed_params kind) ps ≡ b
        → (if b then [] else missing_params n (needed_params kind) ∷ []) ≡ [] → has_params (needed_params kind) ps ≡ true
    by true same e = same
    by false same e = never-one e

-- ---- what is called

-- It is as the whys have it that are empty: if there is no helper, nothing is wrong with that; and a built-in helper has the
-- parameters that it needs.
abbrev pub Fits : List Why → Params → Option Target → Type 0
Fits without ps None = without ≡ []
Fits without ps (Some (calls_registered (built kind))) = has_params (needed_params kind) ps ≡ true
Fits without ps (Some (calls_registered (user called))) = Unit {0}
Fits without ps (Some (calls_local n)) = ⊥

module _ (p : Setting) (names : Names) (are : AreNames p.parts names) where
  registered-is : (n : Text) (o : Option Callee) → names.helper n ≡ o
      → registered_target p.parts n ≡ option_map (λ k. calls_registered k) o
  registered-is n o is = ap (option_map (λ k. calls_registered k)) (are.helpers n ∙ is)

  abbrev OrHook : Bool → Params → List Why → Option Target → Type 0
  OrHook block ps without o = Fits without ps (or_else o (registered_target p.parts (hook block)))

  hook-fits : (block : Bool) (ps : Params) (without : List Why)
      → whys_of_helper (names.helper (hook block)) (hook block) ps without ≡ []
      → Fits without ps (registered_target p.parts (hook block))
  hook-fits block ps without w = by (names.helper (hook block)) refl w
    where
      by : (o : Option Callee) → names.helper (hook block) ≡ o → whys_of_helper o (hook block) ps without ≡ []
          → Fits without ps (registered_target p.parts (hook block))
      by None is e = subst (Fits without ps) (sym (registered-is (hook block) _ is)) e
      by (Some (built kind)) is e =
          subst (Fits without ps) (sym (registered-is (hook block) _ is)) (params-there (hook block) kind ps e)
      by (Some (user called)) is e = subst (Fits without ps) (sym (registered-is (hook block) _ is)) tt

  -- of a name that has a helper, or for which there is a hook
  target-fits : (block : Bool) (ps : Params) (without : List Why) (n : Text) → whys_of_name names block ps without n ≡ []
      → Fits without ps (or_else (registered_target p.parts n) (registered_target p.parts (hook block)))
  target-fits block ps without n w = by (names.helper n) refl w
    where
      by : (o : Option Callee) → names.helper n ≡ o
          → whys_of_helper o n ps (whys_of_helper (names.helper (hook block)) (hook block) ps without) ≡ []
          → Fits without ps (or_else (registered_target p.parts n) (registered_target p.parts (hook block)))
      by None is e = subst (OrHook block ps without) (sym (registered-is n _ is)) (hook-fits block ps without e)
      by (Some (built kind)) is e = subst (OrHook block ps without) (sym (registered-is n _ is)) (params-there n kind ps e)
      by (Some (user called)) is e = subst (OrHook block ps without) (sym (registered-is n _ is)) tt

  -- of a name alone: what is registered under it, if anything is
  pub named-fits : (block : Bool) (ps : Params) (without : List Why) (n : Text) (k : Target)
      → whys_of_name names block ps without n ≡ [] → registered_target p.parts n ≡ Some k → Fits without ps (Some k)
  named-fits block ps without n k w is =
      subst (OrHook block ps without) is (target-fits block ps without n w)

  -- and the hook, if nothing is
  pub unnamed-fits : (block : Bool) (ps : Params) (without : List Why) (n : Text) → whys_of_name names block ps without n ≡ []
      → registered_target p.parts n ≡ None → Fits without ps (registered_target p.parts (hook block))
  unnamed-fits block ps without n w is =
      subst (OrHook block ps without) is (target-fits block ps without n w)

  module _ (s : State) (local : (n : Text) → s.local n ≡ None) where
    pub named-is : (n : Text) → helper_named p.parts s n ≡ registered_target p.parts n
    named-is n =
        ap (λ (l : Option LocalHelper). or_else (option_map (λ x. calls_local n) l) (registered_target p.parts n)) (local n)

    pub called-fits : (block : Bool) (ps : Params) (without : List Why) (n : Text) → whys_of_name names block ps without n ≡ []
        → Fits without ps (helper_for p.parts s block n)
    called-fits block ps without n w =
        subst (OrHook block ps without) (sym (named-is n))
        (target-fits block ps without n w)

-- ---- what a view has

module _ (p : Setting) (s : State) where
  pub gives-same : {A : Type 0} (x y : A) → gives x ≡ gives y → x ≡ y
  gives-same x y is = subst (λ (a : Answer _). Given x a) is refl
    where
      Given : {A : Type 0} → A → Answer A → Type 0
      Given z (gives w) = z ≡ w
      Given z (fails r) = Unit {0}

  pub values-there : (i : ℕ) (ps : Params) (vs : List PathAndData) → HaveValues p s ps (gives vs) → has_params i ps ≡ true
      → HasValues p.parts i vs
  values-there zero ps vs has is = tt
  values-there (suc i) no_params vs has is = cc
  values-there (suc i) (param q qs) vs (goes_on {x = v} a (goes_on {x = ws} b made)) is =
      subst (HasValues p.parts (suc i)) (sym (gives-same vs (v ∷ ws) made)) (values-there i qs ws b is)

  -- a view has the written name, and the values of the parameters
  pub viewed-name : (q : Param) (xs : Args) (v : CallView) (m : Text) → IsAnswered p s (view_of q xs) (gives v)
      → written_name q ≡ Some m → v.name ≡ m
  viewed-name q xs v m (goes_on {x = n} i (goes_on {x = vs} j (goes_on {x = ws} k is))) written =
      ap (λ (w : CallView). w.name) (gives-same v (record { name = n; params = vs; hash = ws }) is) ∙ by q i written
    where
      some-same : (x y : Text) → Some x ≡ Some y → x ≡ y
      some-same x y e = cc

      by : (q : Param) → HasName p s q (gives n) → written_name q ≡ Some m → n ≡ m
      by (name t) e w = gives-same n t e ∙ some-same t m w
      by (path r) e w = gives-same n _ e ∙ some-same _ m w
      by (literal d) e w = gives-same n _ e ∙ some-same _ m w
      by (subexpression e) h w = cc

  pub viewed-params : (q : Param) (xs : Args) (v : CallView) → IsAnswered p s (view_of q xs) (gives v)
      → HaveValues p s (args_params xs) (gives v.params)
  viewed-params q xs v (goes_on {x = n} i (goes_on {x = vs} j (goes_on {x = ws} k is))) =
      subst (λ (l : List PathAndData). HaveValues p s (args_params xs) (gives l))
      (sym (ap (λ (w : CallView). w.params) (gives-same v (record { name = n; params = vs; hash = ws }) is))) j

-- ---- failures

module _ (p : Setting) (names : Names) (are : AreNames p.parts names) (s : State) (local : (n : Text) → s.local n ≡ None) where
  abbrev Still : Refusal → Type 0
  Still r = IsStillPossible p.parts r.reason

  pub never-gives : {A P : Type 0} {x : A} {r : Refusal} → fails r ≡ gives x → P
  never-gives is = cc

  helped-fails : (o : Option Target) (h : HelperView) (ps : Params) (without : List Why) → Fits without ps o
      → (without ≡ [] → ⊥) → ((i : ℕ) → has_params i ps ≡ true → HasValues p.parts i h.call.params) → (r : Refusal)
      → HasHelpedValue p s o h (fails r) → Still r
  helped-fails None h ps without fit never there r is = absurd (never fit)
  helped-fails (Some (calls_registered (built kind))) h ps without fit never there r is =
      served-fails p.parts _ r is (map-served p.parts choice_value (built_in_choice p.parts.strict kind h)
      (built_in-served p.parts kind h (there (needed_params kind) fit)))
  helped-fails (Some (calls_registered (user called))) h ps without fit never there r (first_fails has) =
      for_offer called (helper_question p s h) r has
  helped-fails (Some (calls_registered (user called))) h ps without fit never there r (goes_on {x = not_offered} has (first_fails steps)) =
      for_steps called (helper_question p s h) r steps
  helped-fails (Some (calls_registered (user called))) h ps without fit never there r (goes_on {x = not_offered} has (goes_on steps is)) =
      never-gives is
  helped-fails (Some (calls_registered (user called))) h ps without fit never there r (goes_on {x = offers_missing} has is) =
      never-gives is
  helped-fails (Some (calls_registered (user called))) h ps without fit never there r (goes_on {x = offers d} has is) =
      never-gives is
  helped-fails (Some (calls_local n)) h ps without fit never there r is = absurd fit

  -- a written name is there
  name-fails : {P : Type 0} (q : Param) (m : Text) → written_name q ≡ Some m → (r : Refusal) → HasName p s q (fails r) → P
  name-fails (name n) m written r is = never-gives is
  name-fails (path x) m written r is = never-gives is
  name-fails (literal d) m written r is = never-gives is
  name-fails (subexpression e) m written r is = cc

  pub written-by : (o : Option Text) (whys : Text → List Why) → by_written_name o whys ≡ [] → (m : Text) × (o ≡ Some m) × (whys m ≡ [])
  written-by None whys is = never-one is
  written-by (Some m) whys is = (m, refl, is)

  -- The name is there, then come the parameters and the hash arguments.
  parts-fail : (n : Param) (ps : Params) (hs : Hash) → ((r : Refusal) → HaveValues p s ps (fails r) → Still r)
      → ((r : Refusal) → HashHasValues p s hs (fails r) → Still r) → (m : Text) → written_name n ≡ Some m → (r : Refusal)
      → IsAnswered p s (view_of n (args ps hs)) (fails r) → Still r
  parts-fail n ps hs values hash m written r (first_fails is) = name-fails n m written r is
  parts-fail n ps hs values hash m written r (goes_on i (first_fails is)) = values r is
  parts-fail n ps hs values hash m written r (goes_on i (goes_on j (first_fails is))) = hash r is
  parts-fail n ps hs values hash m written r (goes_on i (goes_on j (goes_on k is))) = never-gives is

  mutual
    value-fails : (q : Param) → whys_of_param names q ≡ [] → (r : Refusal) → HasValue p s q (fails r) → Still r
    value-fails (name n) w r is = never-gives is
    value-fails (path x) w r is = served-fails p.parts (path_value p s x) r is (path_value-served p s x)
    value-fails (literal d) w r is = never-gives is
    value-fails (subexpression e) w r is = inner-fails e w r is

    inner-fails : (e : Element) → whys_of_inner names e ≡ [] → (r : Refusal) → HasInnerValue p s e (fails r) → Still r
    inner-fails (escaped_expression (call n (args ps hs) b t marks)) w r (first_fails is) =
        let first = both-empty (whys_of_list names ps) _ w in
        let second = both-empty (whys_of_hash names hs) _ first.1 in
        let written = written-by (written_name n) _ second.1 in
        parts-fail n ps hs (values-fail ps first.0) (hash-fails hs second.0) written.0 written.1 r is
    inner-fails (escaped_expression (call n (args ps hs) b t marks)) w r (goes_on {x = v} viewed is) =
        let first = both-empty (whys_of_list names ps) _ w in
        let second = both-empty (whys_of_hash names hs) _ first.1 in
        let written = written-by (written_name n) _ second.1 in
        let same : v.name ≡ written.0 = viewed-name p s n (args ps hs) v written.0 viewed written.1 in
        let without : List Why = missing_helper written.0 ∷ [] in
        helped-fails (helper_for p.parts s false v.name) (view_without_bodies b v) ps without
        (subst (λ (m : Text). Fits without ps (helper_for p.parts s false m)) (sym same)
        (called-fits p names are s local false ps without written.0 written.2)) (λ e. never-one e)
        (λ i there. values-there p s i ps v.params (viewed-params p s n (args ps hs) v viewed) there) r is
    inner-fails e w r is = never-gives is

    values-fail : (ps : Params) → whys_of_list names ps ≡ [] → (r : Refusal) → HaveValues p s ps (fails r) → Still r
    values-fail no_params w r is = never-gives is
    values-fail (param q qs) w r (first_fails (first_fails is)) =
        value-fails q (both-empty (whys_of_param names q) (whys_of_list names qs) w).0 r is
    values-fail (param q qs) w r (first_fails (goes_on i is)) = never-gives is
    values-fail (param q qs) w r (goes_on i (first_fails is)) =
        values-fail qs (both-empty (whys_of_param names q) (whys_of_list names qs) w).1 r is
    values-fail (param q qs) w r (goes_on i (goes_on j is)) = never-gives is

    hash-fails : (hs : Hash) → whys_of_hash names hs ≡ [] → (r : Refusal) → HashHasValues p s hs (fails r) → Still r
    hash-fails no_hash w r is = never-gives is
    hash-fails (hash_pair k q hs) w r (first_fails (first_fails is)) =
        value-fails q (both-empty (whys_of_param names q) (whys_of_hash names hs) w).0 r is
    hash-fails (hash_pair k q hs) w r (first_fails (goes_on i is)) = never-gives is
    hash-fails (hash_pair k q hs) w r (goes_on i (first_fails is)) =
        hash-fails hs (both-empty (whys_of_param names q) (whys_of_hash names hs) w).1 r is
    hash-fails (hash_pair k q hs) w r (goes_on i (goes_on j is)) = never-gives is

  -- a written name is no call
  pub written-fails : (q : Param) (m : Text) → written_name q ≡ Some m → (r : Refusal) → HasValue p s q (fails r) → Still r
  written-fails (name n) m written r is = value-fails (name n) refl r is
  written-fails (path x) m written r is = value-fails (path x) refl r is
  written-fails (literal d) m written r is = value-fails (literal d) refl r is
  written-fails (subexpression e) m written r is = cc

  pub view-fails : (q : Param) (xs : Args) → whys_of_args names xs ≡ [] → (m : Text) → written_name q ≡ Some m → (r : Refusal)
      → IsAnswered p s (view_of q xs) (fails r) → Still r
  view-fails q (args ps hs) w m written r is =
      let both = both-empty (whys_of_list names ps) (whys_of_hash names hs) w in
      parts-fail q ps hs (values-fail ps both.0) (hash-fails hs both.1) m written r is
