-- For what calls fail whose names are known.
use Rattle.std.proofs.Common.{◌≡◌, ℕ, Bool, true, false, not, ◌&&◌, ◌||◌, if◌then◌else◌, List, [], ◌∷◌, refl, sym, ap, ◌∙◌, subst, Option, None, Some, append-nil}
use Rattle.std.specs.List.{AllByRecursion, list_all}
use Rattle.serde_json.specs.Data.{Data, null, boolean, number, string, array, object}
use Rattle.handlebars_base.specs.Answers.{gives, fails, fails_for}
use Rattle.handlebars_base.specs.Bytes.{Text, is_symbol}
use Rattle.handlebars_base.specs.Path.{IsPath, plain, in_parts, meaning}
use Rattle.handlebars_base.specs.PathAndData.{PathAndData}
use Rattle.handlebars_base.specs.Reasons.{Refusal, missing_variable}
use Rattle.handlebars_base.specs.Scoped.{data_in}
use Rattle.handlebars_template.specs.Tree.{Call, call_name, call_args, call_params, is_value, Param, name, path, literal, subexpression, Params, as_name}
use Rattle.handlebars_helpers.specs.Callee.{built, user, Target, calls_registered, calls_local}
use Rattle.handlebars_helpers.specs.CallView.{CallView, HelperView}
use Rattle.handlebars_helpers.specs.Choice.{null_or_refusal}
use Rattle.handlebars_helpers.specs.UserHelper.{Offer, not_offered, offers_missing, offers}
use Rattle.handlebars_semantics.specs.Asks.{goes_on, first_fails}
use Rattle.handlebars_semantics.specs.Execute.{view_with_bodies}
use Rattle.handlebars_semantics.specs.Origins.{is_lone, Calls, by_name, as_called, by_hook}
use Rattle.handlebars_semantics.specs.Questions.{value_of, view_of, called_as, hook_for, choice_of, HasCalled, offer_choice, IsAnswered}
use Rattle.handlebars_semantics.specs.Sections.{section_kind, section_call, reads_not, HasSectionPath, HasSectionIf}
use Rattle.handlebars_semantics.specs.State.{Setting, State, hook, helper_named, helper_for, registered_target}
use Rattle.handlebars_semantics.specs.Values.{helper_question, as_written, path_value}
use Rattle.handlebars_html.specs.Rule.{written_name}
use Rattle.handlebars_names.specs.Faults.{Why, missing_helper}
use Rattle.handlebars_names.specs.Law.{IsStillPossible, for_steps, for_offer, for_variable}
use Rattle.handlebars_names.specs.Names.{Names, AreNames}
use Rattle.handlebars_names.specs.Whys.{needed_params, has_params, by_written_name, whys_of_name, is_identifier, leads_to_value, whys_without_helper, whys_of_args, whys_of_call}
use Rattle.handlebars_names.proofs.Arguments.{both-empty, never-one, Fits, named-fits, unnamed-fits, called-fits, named-is, gives-same, values-there, viewed-name, viewed-params, never-gives, written-fails, view-fails}
use Rattle.handlebars_names.proofs.Failing.{IsServed, served-fails, built_in-served, path_value-served, HasValues}

-- ---- identifiers are paths

and-parts : (a b : Bool) → (a && b) ≡ true → (a ≡ true) × (b ≡ true)
and-parts true b is = (refl, is)
and-parts false b is = cc

symbols : (bs : Text) → list_all is_symbol bs ≡ true → AllByRecursion (λ b. is_symbol b ≡ true) bs
symbols [] is = tt
symbols (b ∷ bs) is = let both = and-parts (is_symbol b) (list_all is_symbol bs) is in (both.0, symbols bs both.1)

identifier-path : (n : Text) → is_identifier n ≡ true → IsPath n (meaning n (in_parts false (plain n) []))
identifier-path [] is = cc
identifier-path (b ∷ bs) is = record {
  shape = in_parts false (plain (b ∷ bs)) [];
  fits = (((λ e. cc), symbols (b ∷ bs) is), tt);
  spells = sym (append-nil (b ∷ bs));
  gives = refl;
}

-- ---- calls with nothing wrong in them

pub record KnownCall (names : Names) (block : Bool) (c : Call) : Type 0 where
  pub called : Text
  pub written : written_name (call_name c) ≡ Some called
  pub arguments : whys_of_args names (call_args c) ≡ []
  pub calls : whys_of_name names block (call_params c) (whys_without_helper names block c called) called ≡ []

pub call-known : (names : Names) (block : Bool) (c : Call) → whys_of_call names block c ≡ [] → KnownCall names block c
call-known names block c is =
    let both = both-empty (whys_of_args names (call_args c)) _ is in
    let written = by-written (written_name (call_name c)) _ both.1 in
    record { called = written.0; written = written.1; arguments = both.0; calls = written.2 }
  where
    by-written : (o : Option Text) (whys : Text → List Why) → by_written_name o whys ≡ []
        → (m : Text) × (o ≡ Some m) × (whys m ≡ [])
    by-written None whys e = never-one e
    by-written (Some m) whys e = (m, refl, e)

-- A call that is no name alone and has no helper is a section.
section-known : (names : Names) (block : Bool) (c : Call) (m : Text) → whys_without_helper names block c m ≡ []
    → is_lone block c ≡ false → ((names.sections && (block && is_value c)) ≡ true) × (leads_to_value (call_name c) ≡ true)
section-known names block c m is not_lone = and-parts _ _ (by (is_lone block c) not_lone _ is)
  where
    by : (a : Bool) → a ≡ false → (b : Bool) → (if not (a || b) then missing_helper m ∷ [] else []) ≡ [] → b ≡ true
    by true e b w = cc
    by false e true w = refl
    by false e false w = never-one w

not-block : (block : Bool) (c : Call) → is_lone block c ≡ true → block ≡ false
not-block true c is = cc
not-block false c is = refl

module _ (p : Setting) (names : Names) (are : AreNames p.parts names) (s : State) (local : (n : Text) → s.local n ≡ None) where
  abbrev Still : Refusal → Type 0
  Still r = IsStillPossible p.parts r.reason

  -- ---- what a target chooses

  null-served : (strict : Bool) → p.parts.strict ≡ strict → IsServed p.parts (null_or_refusal strict)
  null-served true same = for_variable same
  null-served false same = tt

  offer-served : (o : Offer) → IsServed p.parts (offer_choice p.parts.strict o)
  offer-served not_offered = tt
  offer-served offers_missing = null-served p.parts.strict refl
  offer-served (offers d) = tt

  choice-fails : (k : Target) (h : HelperView) (ps : Params) (without : List Why) → Fits without ps (Some k)
      → ((i : ℕ) → has_params i ps ≡ true → HasValues p.parts i h.call.params) → (r : Refusal)
      → IsAnswered p s (choice_of k h) (fails r) → Still r
  choice-fails (calls_registered (built kind)) h ps without fit there r is =
      served-fails p.parts _ r is (built_in-served p.parts kind h (there (needed_params kind) fit))
  choice-fails (calls_registered (user called)) h ps without fit there r (first_fails has) =
      for_steps called (helper_question p s h) r has
  choice-fails (calls_registered (user called)) h ps without fit there r (goes_on {x = None} has (first_fails offer)) =
      for_offer called (helper_question p s h) r offer
  choice-fails (calls_registered (user called)) h ps without fit there r (goes_on {x = None} has (goes_on {x = o} offer is)) =
      served-fails p.parts (offer_choice p.parts.strict o) r is (offer-served o)
  choice-fails (calls_registered (user called)) h ps without fit there r (goes_on {x = Some steps} has is) =
      never-gives p names are s local is
  choice-fails (calls_local n) h ps without fit there r is = absurd fit

  -- ---- sections

  section-path : (q : Param) (v : CallView) → leads_to_value q ≡ true → {P : Type 0} (r : Refusal)
      → HasSectionPath q v (fails r) → P
  section-path (name n) v leads r (reads_not without) = absurd (without _ (identifier-path n leads))
  section-path (path x) v leads r is = never-gives p names are s local is
  section-path (literal d) v leads r is = cc
  section-path (subexpression e) v leads r is = cc

  section-fails : (b : Bool) (q : Param) (v : CallView) → b ≡ true → leads_to_value q ≡ true → (r : Refusal)
      → HasSectionIf b p s q v (fails r) → Still r
  section-fails true q v is leads r (first_fails none) = section-path q v leads r none
  section-fails true q v is leads r (goes_on {x = x} i (first_fails none)) =
      served-fails p.parts (path_value p s x) r none (path_value-served p s x)
  section-fails true q v is leads r (goes_on i (goes_on j made)) = never-gives p names are s local made
  section-fails false q v is leads r none = cc

  section-one : (d : Data) (x : PathAndData) → HasValues p.parts (needed_params (section_kind d)) (x ∷ [])
  section-one null x = tt
  section-one (boolean b) x = tt
  section-one (number n) x = tt
  section-one (string t) x = tt
  section-one (array ds) x = tt
  section-one (object ms) x = tt

  section-chooses : (b block : Bool) (c : Call) (v : CallView) (k : Target) (seen : CallView)
      → HasSectionIf b p s (call_name c) v (gives (k, seen)) → (r : Refusal)
      → IsAnswered p s (choice_of k (view_with_bodies block c seen)) (fails r) → Still r
  section-chooses true block c v k seen (goes_on i (goes_on {x = found} j made)) r is =
      let pair : Target × CallView = (k, seen) in
      let same : pair ≡ section_call (call_name c) v found = gives-same p s pair (section_call (call_name c) v found) made in
      let chosen = subst (λ (y : Target × CallView). IsAnswered p s (choice_of y.0 (view_with_bodies block c y.1)) (fails r)) same is in
      served-fails p.parts _ r chosen (built_in-served p.parts (section_kind (data_in found))
      (view_with_bodies block c (section_call (call_name c) v found).1)
      (section-one (data_in found) (as_written (call_name c) found)))
  section-chooses false block c v k seen is r chosen = cc

  -- ---- calls

  module _ (block : Bool) (c : Call) (known : KnownCall names block c) where
    abbrev without : List Why
    without = whys_without_helper names block c known.called

    pub call_view-fails : (r : Refusal) → IsAnswered p s (view_of (call_name c) (call_args c)) (fails r) → Still r
    call_view-fails r is = view-fails p names are s local (call_name c) (call_args c) known.arguments known.called known.written r is

    pub call_value-fails : (r : Refusal) → IsAnswered p s (value_of (call_name c)) (fails r) → Still r
    call_value-fails r is = written-fails p names are s local (call_name c) known.called known.written r is

    module _ (v : CallView) (viewed : IsAnswered p s (view_of (call_name c) (call_args c)) (gives v)) where
      same-name : v.name ≡ known.called
      same-name = viewed-name p s (call_name c) (call_args c) v known.called viewed known.written

      values : (i : ℕ) → has_params i (call_params c) ≡ true → HasValues p.parts i v.params
      values i is = values-there p s i (call_params c) v.params (viewed-params p s (call_name c) (call_args c) v viewed) is

      fits : Fits without (call_params c) (helper_for p.parts s block v.name)
      fits = subst (λ (m : Text). Fits without (call_params c) (helper_for p.parts s block m)) (sym same-name)
          (called-fits p names are s local block (call_params c) without known.called known.calls)

      sections-on : without ≡ [] → is_lone block c ≡ false
          → ((p.parts.sections && (block && is_value c)) ≡ true) × (leads_to_value (call_name c) ≡ true)
      sections-on none not_lone =
          let both = section-known names block c known.called none not_lone in
          (ap (λ (b : Bool). b && (block && is_value c)) are.sections ∙ both.0, both.1)

      pub called-fails : is_lone block c ≡ false → (r : Refusal) → IsAnswered p s (called_as block c v) (fails r) → Still r
      called-fails not_lone r is = by (helper_for p.parts s block v.name) fits is
        where
          by : (o : Option Target) → Fits without (call_params c) o → HasCalled p s block c v o (fails r) → Still r
          by None fit e =
              let on = sections-on fit not_lone in
              section-fails (p.parts.sections && (block && is_value c)) (call_name c) v on.0 on.1 r e
          by (Some k) fit e = never-gives p names are s local e

      registered-of : (o : Option Target) → gives o ≡ gives (helper_named p.parts s v.name) → registered_target p.parts known.called ≡ o
      registered-of o is =
          ap (registered_target p.parts) (sym same-name)
          ∙ sym (gives-same p s o (registered_target p.parts v.name)
          (is ∙ ap (λ (x : Option Target). gives x) (named-is p names are s local v.name)))

      pub chosen-fails : (k : Target) (seen : CallView) → Calls p block c s v k seen → (r : Refusal)
          → IsAnswered p s (choice_of k (view_with_bodies block c seen)) (fails r) → Still r
      chosen-fails k seen (by_name lone helps) r is =
          choice-fails k (view_with_bodies block c v) (call_params c) without
          (named-fits p names are block (call_params c) without known.called k known.calls (registered-of (Some k) helps))
          values r is
      chosen-fails k seen (as_called not_lone called) r is = by (helper_for p.parts s block v.name) fits called
        where
          by : (o : Option Target) → Fits without (call_params c) o → HasCalled p s block c v o (gives (k, seen)) → Still r
          by None fit e = section-chooses (p.parts.sections && (block && is_value c)) block c v k seen e r is
          by (Some x) fit e =
              let one : Target × CallView = (k, seen) in
              let other : Target × CallView = (x, v) in
              let same : one ≡ other = gives-same p s one other e in
              choice-fails x (view_with_bodies block c v) (call_params c) without fit values r
              (subst (λ (y : Target × CallView). IsAnswered p s (choice_of y.0 (view_with_bodies block c y.1)) (fails r)) same is)
      chosen-fails k seen (by_hook value hooked) r is = by p.parts.strict hooked
        where
          hook_is : hook block ≡ hook false
          hook_is = ap hook (not-block block c value.lone)

          hook-fit : Fits without (call_params c) (registered_target p.parts (hook false))
          hook-fit = subst (λ (n : Text). Fits without (call_params c) (registered_target p.parts n)) hook_is
              (unnamed-fits p names are block (call_params c) without known.called known.calls (registered-of None value.no_helper))

          by : (b : Bool) → gives (Some k)
              ≡ (if b then fails_for (missing_variable (as_name (call_name c))) else gives (registered_target p.parts (hook false))) → Still r
          by true e = cc
          by false e = choice-fails k (view_with_bodies block c v) (call_params c) without
              (subst (Fits without (call_params c)) (sym (gives-same p s (Some k) (registered_target p.parts (hook false)) e)) hook-fit)
              values r is

  pub hook-fails : (q : Param) (r : Refusal) → IsAnswered p s (hook_for q) (fails r) → Still r
  hook-fails q r is = by p.parts.strict refl is
    where
      by : (b : Bool) → p.parts.strict ≡ b
          → fails r ≡ (if b then fails_for (missing_variable (as_name q)) else gives (registered_target p.parts (hook false))) → Still r
      by true same e = served-fails p.parts (fails_for (missing_variable (as_name q))) r e (for_variable same)
      by false same e = never-gives p names are s local e
