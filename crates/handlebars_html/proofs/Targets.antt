-- What calls call and what decorators do, by the names that are written in a template.
use Rattle.std.proofs.Common.{◌≡◌, Bool, true, false, ◌&&◌, if◌then◌else◌, List, [], ◌∷◌, refl, sym, ap, ◌∙◌, subst, Option, None, Some, option_map, cond, codes}
use Rattle.std.specs.List.{AllByRecursion, slice_get}
use Rattle.std.specs.Str.{bytes_eq}
use Rattle.serde_json.specs.Data.{Data, null, boolean, number, string, array, object}
use Rattle.handlebars_base.specs.Answers.{Answer, gives, fails_for}
use Rattle.handlebars_base.specs.Bytes.{Text}
use Rattle.handlebars_base.specs.Optional.{with_or}
use Rattle.handlebars_base.specs.PathAndData.{PathAndData}
use Rattle.handlebars_base.specs.Reasons.{missing_variable, param_not_found_for_index}
use Rattle.handlebars_base.specs.Scoped.{data_in}
use Rattle.handlebars_template.specs.Tree.{Call, call_name, is_value, Args, args, args_params, Param, name, path, literal, subexpression, param, Body, no_body, body, as_name}
use Rattle.handlebars_scope.specs.Resolve.{or_else}
use Rattle.handlebars_helpers.specs.CallView.{CallView, HelperView, param_at}
use Rattle.handlebars_helpers.specs.Callee.{built, LocalHelper, Target, calls_registered, calls_local}
use Rattle.handlebars_helpers.specs.Choice.{BuiltInKind, built_in, Choice, the_value, nothing, null_or_refusal, built_in_choice}
use Rattle.handlebars_helpers.specs.UserHelper.{Step, Offer, GivesValues, not_offered, offers_missing, offers}
use Rattle.handlebars_helpers.specs.SafeUrl.{IsSafeOffer, GivesUrls}
use Rattle.handlebars_helpers.specs.Callee.{user, first_callee}
use Rattle.handlebars_semantics.specs.Questions.{choice_of, offer_choice, steps_or_offer}
use Rattle.handlebars_semantics.specs.Values.{HasSteps}
use Rattle.handlebars_helpers.specs.Decoration.{DecoratorKind, kind_inline, kind_user, DecoratorView, Action, sets_partial, by_text, by_body, inline_actions}
use Rattle.handlebars_semantics.specs.Asks.{goes_on}
use Rattle.handlebars_semantics.specs.Questions.{view_of, helper_of, called_as, hook_for, decorator_of, actions_of, IsAnswered, HasCalled, decorator_or_refusal}
use Rattle.handlebars_semantics.specs.Sections.{section_kind, section_call, HasSectionIf}
use Rattle.handlebars_semantics.specs.State.{Setting, State, hook, helper_named, helper_for, registered_target}
use Rattle.handlebars_semantics.specs.Values.{HasName, HaveValues}
use Rattle.handlebars_html.specs.Rule.{Registered, as_first, user_values, user_urls, are_urls, effect_as, Effect, iterations, a_value, effect_of, effect_named, written_name, IsNamed, inline_name}
use Rattle.handlebars_html.specs.Usual.{HelperIs, IsUsual}
use Rattle.handlebars_html.proofs.Effects.{Given, given-gives, gives-same, Fits, null-fits, kind-fits, section-fits, IsNoSteps, fits-no_steps, IsUrl, null-url, IsSet}

-- ---- what calls call

some-same : (x y : Target) → Some x ≡ Some y → x ≡ y
some-same x y is = cc

none-some : {P : Type 0} {x : Target} → None ≡ Some x → P
none-some e = cc

module _ (p : Setting) (registered : Text → Registered) (usual : IsUsual p registered) where
  -- whatever it is asked, and wherever, what it chooses fits
  abbrev pub IsBuilt : (Choice → Type 0) → Target → Type 0
  IsBuilt fits k = (z : State) (h : HelperView) (c : Choice) → IsAnswered p z (choice_of k h) (gives c) → fits c

  no_hook : (block : Bool) → registered_target p.parts (hook block) ≡ None
  no_hook block = by block (subst (λ (x : Registered). HelperIs p x (hook block)) (usual.hooks block) (usual.helpers (hook block)))
    where
      by : (block : Bool) → p.parts.helper (hook block) ≡ first_callee (hook block) → registered_target p.parts (hook block) ≡ None
      by true is = ap (option_map (λ k. calls_registered k)) is
      by false is = ap (option_map (λ k. calls_registered k)) is

  -- a helper of one's user that gives values
  user-chooses : (called : Text) → GivesValues (p.parts.user called) → IsBuilt (Fits a_value) (calls_registered (user called))
  user-chooses called never z h c (goes_on {x = steps} i next) = by steps i next
    where
      offered : (x : Offer) → gives c ≡ offer_choice p.parts.strict x → Fits a_value c
      offered not_offered is = subst (Fits a_value) (sym (gives-same c nothing is)) tt
      offered offers_missing is = given-gives (Fits a_value) (null_or_refusal p.parts.strict) c is (null-fits p.parts.strict)
      offered (offers d) is = subst (Fits a_value) (sym (gives-same c (the_value d) is)) tt

      by : (steps : Option (List Step)) → HasSteps p z called h (gives steps) → steps_or_offer p z called h steps (gives c)
          → Fits a_value c
      by None i (goes_on {x = x} j is) = offered x is
      by (Some steps) i next = absurd (never _ steps i)

  -- a helper of one's user that gives addresses
  url-chooses : (called : Text) → GivesUrls (p.parts.user called) → IsBuilt IsUrl (calls_registered (user called))
  url-chooses called urls z h c (goes_on {x = steps} i next) = by steps i next
    where
      offered : (x : Offer) → IsSafeOffer x → gives c ≡ offer_choice p.parts.strict x → IsUrl c
      offered not_offered safe is = subst IsUrl (sym (gives-same c nothing is)) tt
      offered offers_missing safe is = given-gives IsUrl (null_or_refusal p.parts.strict) c is (null-url p.parts.strict)
      offered (offers d) safe is = subst IsUrl (sym (gives-same c (the_value d) is)) safe

      by : (steps : Option (List Step)) → HasSteps p z called h (gives steps) → steps_or_offer p z called h steps (gives c)
          → IsUrl c
      by None i (goes_on {x = x} j is) = offered x (urls.urls _ x j) is
      by (Some steps) i next = absurd (urls.values _ steps i)

  built-chooses : (kind : BuiltInKind) → IsBuilt (Fits (effect_of kind)) (calls_registered (built kind))
  built-chooses kind z h c is =
      given-gives (Fits (effect_of kind)) (built_in_choice p.parts.strict kind h) c is (kind-fits p.parts.strict kind h)

  -- what stands under a name chooses as its name says
  registered-chooses : (n : Text) (k : Target) → registered_target p.parts n ≡ Some k → IsBuilt (Fits (effect_named registered n)) k
  registered-chooses n k is = by (registered n) (usual.helpers n)
    where
      of_kind : (o : Option BuiltInKind) → p.parts.helper n ≡ option_map (λ kind. built kind) o
          → IsBuilt (Fits (with_or o effect_of iterations)) k
      of_kind None at = none-some (sym (ap (option_map (λ k. calls_registered k)) at) ∙ is)
      of_kind (Some kind) at =
          subst (IsBuilt (Fits (effect_of kind)))
          (some-same (calls_registered (built kind)) k (sym (ap (option_map (λ k. calls_registered k)) at) ∙ is))
          (built-chooses kind)

      by_values : (at : Text) → p.parts.helper n ≡ Some (user at) → GivesValues (p.parts.user at) → IsBuilt (Fits a_value) k
      by_values at e gives_values =
          subst (IsBuilt (Fits a_value))
          (some-same (calls_registered (user at)) k (sym (ap (option_map (λ k. calls_registered k)) e) ∙ is))
          (user-chooses at gives_values)

      by : (x : Registered) → HelperIs p x n → IsBuilt (Fits (effect_as x n)) k
      by user_values at = by_values at.0 at.1 at.2
      by user_urls at = by_values at.0 at.1 at.2.values
      by as_first at = of_kind (built_in n) at

  -- a name with nothing under it is a section's
  unregistered-effect : (n : Text) → registered_target p.parts n ≡ None → effect_named registered n ≡ iterations
  unregistered-effect n is = by (registered n) (usual.helpers n)
    where
      of_kind : (o : Option BuiltInKind) → p.parts.helper n ≡ option_map (λ kind. built kind) o → with_or o effect_of iterations ≡ iterations
      of_kind None at = refl
      of_kind (Some kind) at = none-some (sym is ∙ ap (option_map (λ k. calls_registered k)) at)

      by : (x : Registered) → HelperIs p x n → effect_as x n ≡ iterations
      by user_values at = none-some (sym is ∙ ap (option_map (λ k. calls_registered k)) at.1)
      by user_urls at = none-some (sym is ∙ ap (option_map (λ k. calls_registered k)) at.1)
      by as_first at = of_kind (built_in n) at

  -- what stands under the name of a helper of addresses
  record UrlTarget (n : Text) : Type 0 where
    pub target : Target
    pub is : registered_target p.parts n ≡ Some target
    pub built : IsBuilt IsUrl target

  url-target : (n : Text) → are_urls (registered n) ≡ true → UrlTarget n
  url-target n is = by (registered n) is (usual.helpers n)
    where
      by : (x : Registered) → are_urls x ≡ true → HelperIs p x n → UrlTarget n
      by as_first e at = cc
      by user_values e at = cc
      by user_urls e at = record {
        target = calls_registered (user at.0);
        is = ap (option_map (λ k. calls_registered k)) at.1;
        built = url-chooses at.0 at.2;
      }

  no_steps-built : (n : Text) (k : Target) → IsBuilt (Fits (effect_named registered n)) k → IsBuilt IsNoSteps k
  no_steps-built n k is z h c chose = fits-no_steps (effect_named registered n) c (is z h c chose)

  -- there is no hook
  pub hook_for-none : (s : State) (q : Param) (k : Target) → IsAnswered p s (hook_for q) (gives (Some k)) → ⊥
  hook_for-none s q k is = by p.parts.strict is
    where
      by : (b : Bool) → gives (Some k)
          ≡ (if b then fails_for (missing_variable (as_name q)) else gives (registered_target p.parts (hook false))) → ⊥
      by true e = cc
      by false e = none-some (sym (gives-same (Some k) None (e ∙ ap (λ (o : Option Target). gives o) (no_hook false))))

  module _ (s : State) (local : (n : Text) → s.local n ≡ None) where
    named-is : (n : Text) → helper_named p.parts s n ≡ registered_target p.parts n
    named-is n =
        ap (λ (l : Option LocalHelper). or_else (option_map (λ x. calls_local n) l) (registered_target p.parts n)) (local n)

    or_else-none : (o : Option Target) → or_else o None ≡ o
    or_else-none None = refl
    or_else-none (Some k) = refl

    for-is : (block : Bool) (n : Text) → helper_for p.parts s block n ≡ registered_target p.parts n
    for-is block n =
        ap (λ (o : Option Target). or_else (helper_named p.parts s n) o) (no_hook block)
        ∙ or_else-none (helper_named p.parts s n) ∙ named-is n

    -- of an expression by a name alone
    pub helper_of-built : (n : Text) (k : Target) → IsAnswered p s (helper_of n) (gives (Some k)) → IsBuilt IsNoSteps k
    helper_of-built n k is =
        no_steps-built n k (registered-chooses n k (sym (gives-same (Some k) (registered_target p.parts n)
        (is ∙ ap (λ (o : Option Target). gives o) (named-is n)))))

    -- a section is called as one of its kinds
    section-built : (on : Bool) (q : Param) (v : CallView) (k : Target × CallView) → HasSectionIf on p s q v (gives k)
        → IsBuilt (Fits iterations) k.0
    section-built true q v k (goes_on {x = r} i (goes_on {x = found} j is)) =
        subst (λ (x : Target × CallView). IsBuilt (Fits iterations) x.0) (sym (gives-same k (section_call q v found) is))
        (λ z h c chose. given-gives (Fits iterations) (built_in_choice p.parts.strict (section_kind (data_in found)) h) c chose
        (section-fits p.parts.strict (data_in found) h))
    section-built false q v k is = cc

    -- of a block: what its name says, or a section
    pub called-block : (c : Call) (v : CallView) (k : Target × CallView) → IsAnswered p s (called_as true c v) (gives k)
        → IsBuilt (Fits (effect_named registered v.name)) k.0
    called-block c v k is = by (registered_target p.parts v.name) refl
        (subst (λ (o : Option Target). HasCalled p s true c v o (gives k)) (for-is true v.name) is)
      where
        by : (o : Option Target) → registered_target p.parts v.name ≡ o → HasCalled p s true c v o (gives k)
            → IsBuilt (Fits (effect_named registered v.name)) k.0
        by None e is = subst (λ (w : Effect). IsBuilt (Fits w) k.0) (sym (unregistered-effect v.name e))
            (section-built (p.parts.sections && (true && is_value c)) (call_name c) v k is)
        by (Some t) e is = registered-chooses v.name k.0
            (e ∙ sym (ap (λ (x : Target × CallView). Some x.0) (gives-same k (t, v) is)))

    -- of an expression: a helper
    pub called-expression : (c : Call) (v : CallView) (k : Target × CallView) → IsAnswered p s (called_as false c v) (gives k)
        → IsBuilt IsNoSteps k.0
    called-expression c v k is = by (registered_target p.parts v.name) refl
        (subst (λ (o : Option Target). HasCalled p s false c v o (gives k)) (for-is false v.name) is)
      where
        no_section : (on : Bool) → HasSectionIf (on && (false && is_value c)) p s (call_name c) v (gives k) → IsBuilt IsNoSteps k.0
        no_section true is = cc
        no_section false is = cc

        by : (o : Option Target) → registered_target p.parts v.name ≡ o → HasCalled p s false c v o (gives k)
            → IsBuilt IsNoSteps k.0
        by None e is = no_section p.parts.sections is
        by (Some t) e is = no_steps-built v.name k.0 (registered-chooses v.name k.0
            (e ∙ sym (ap (λ (x : Target × CallView). Some x.0) (gives-same k (t, v) is))))

    -- ... and one of addresses, if it is called by the name of one
    pub called-url : (c : Call) (v : CallView) (k : Target × CallView) → are_urls (registered v.name) ≡ true
        → IsAnswered p s (called_as false c v) (gives k) → IsBuilt IsUrl k.0
    called-url c v k urls is =
        let there = url-target v.name urls in
        let answered = subst (λ (o : Option Target). HasCalled p s false c v o (gives k)) (for-is false v.name ∙ there.is) is in
        subst (IsBuilt IsUrl) (sym (ap (λ (x : Target × CallView). x.0) (gives-same k (there.target, v) answered))) there.built

module _ (p : Setting) (registered : Text → Registered) (usual : IsUsual p registered) (s : State) (local : (n : Text) → s.local n ≡ None) where
  -- ---- views

  named-written : (q : Param) (n : Text) → HasName p s q (gives n) → IsNamed (written_name q) n
  named-written (name m) n is = gives-same _ _ is
  named-written (path r) n is = gives-same _ _ is
  named-written (literal d) n is = gives-same _ _ is
  named-written (subexpression e) n is = tt

  -- the name that a tag is viewed with is the written one
  pub view-named : (q : Param) (xs : Args) (v : CallView) → IsAnswered p s (view_of q xs) (gives v) → IsNamed (written_name q) v.name
  view-named q xs v (goes_on {x = n} i (goes_on {x = vs} j (goes_on {x = ws} k is))) =
      let same : v ≡ record { name = n; params = vs; hash = ws } = gives-same _ _ is in
      subst (IsNamed (written_name q)) (sym (ap (λ (w : CallView). w.name) same)) (named-written q n i)

  -- a literal text is viewed as itself
  literal-viewed : (xs : Args) (vs : List PathAndData) → HaveValues p s (args_params xs) (gives vs) → (x : PathAndData)
      → slice_get vs 0 ≡ Some x → (n : Text) → data_in x.found ≡ string n → IsNamed (inline_name xs) n
  literal-viewed (args (param (literal (string m)) ps) hs) vs
      (goes_on {x = w} (goes_on {x = f} i made) (goes_on {x = ws} j joined)) x at n is =
      let first : w ≡ x = first-of w x ws (ap (λ (l : List PathAndData). slice_get l 0) (sym (gives-same _ _ joined)) ∙ at) in
      let found : w.found ≡ f = ap (λ (z : PathAndData). z.found) (gives-same _ _ made) in
      let is_data : data_in f ≡ string m = ap data_in (gives-same _ _ i) in
      ap (text_of n)
      (sym is ∙ ap (λ (z : PathAndData). data_in z.found) (sym first) ∙ ap data_in found ∙ is_data)
    where
      first-of : (a b : PathAndData) (l : List PathAndData) → slice_get (a ∷ l) 0 ≡ Some b → a ≡ b
      first-of a b l e = cc

      text_of : Text → Data → Text
      text_of other (string t) = t
      text_of other d = other
  literal-viewed xs vs has x at n is = tt

  params-viewed : (q : Param) (xs : Args) (v : CallView) → IsAnswered p s (view_of q xs) (gives v)
      → HaveValues p s (args_params xs) (gives v.params)
  params-viewed q xs v (goes_on {x = n} i (goes_on {x = vs} j (goes_on {x = ws} k is))) =
      let same : v ≡ record { name = n; params = vs; hash = ws } = gives-same _ _ is in
      subst (λ (l : List PathAndData). HaveValues p s (args_params xs) (gives l)) (sym (ap (λ (w : CallView). w.params) same)) j

  -- ---- decorators

  -- the one of each name that has one
  kind-inline : (n : Text) (k : DecoratorKind) → IsAnswered p s (decorator_of n) (gives k) → k ≡ kind_inline
  kind-inline n k is = by (bytes_eq n (codes "inline"))
      (is ∙ ap (λ (o : Option DecoratorKind). decorator_or_refusal n o) (usual.decorators n))
    where
      by : (x : Bool) → gives k ≡ decorator_or_refusal n (cond x (Some kind_inline) None) → k ≡ kind_inline
      by true e = gives-same k kind_inline e
      by false e = cc

  abbrev AreSet : Args → List Action → Type 0
  AreSet xs actions = AllByRecursion (IsSet xs) actions

  given-at : {A B : Type 0} (P : B → Type 0) (o : Option A) (f : A → Answer B) (other : Answer B)
      → ((x : A) → o ≡ Some x → Given P (f x)) → Given P other → Given P (with_or o f other)
  given-at P None f other h k = k
  given-at P (Some x) f other h k = h x refl

  by_text-set : (xs : Args) (d : Data) (f : Text → Answer (List Action))
      → ((n : Text) → d ≡ string n → Given (AreSet xs) (f n)) → Given (AreSet xs) (by_text d f)
  by_text-set xs null f h = tt
  by_text-set xs (boolean b) f h = tt
  by_text-set xs (number n) f h = tt
  by_text-set xs (string n) f h = h n refl
  by_text-set xs (array ds) f h = tt
  by_text-set xs (object ms) f h = tt

  by_body-set : (xs : Args) (b : Body) (n : Text) → IsNamed (inline_name xs) n
      → Given (AreSet xs) (by_body b (λ t. gives (sets_partial n ∷ [])))
  by_body-set xs no_body n h = tt
  by_body-set xs (body t) n h = (h, tt)

  pub actions-set : (q : Param) (xs : Args) (w : DecoratorView) → IsAnswered p s (view_of q xs) (gives w.call)
      → (k : DecoratorKind) → IsAnswered p s (decorator_of w.call.name) (gives k)
      → (actions : List Action) → IsAnswered p s (actions_of k w) (gives actions) → AllByRecursion (IsSet xs) actions
  actions-set q xs w viewed k named actions is = by k (kind-inline w.call.name k named) is
    where
      all : Given (AreSet xs) (inline_actions w)
      all = given-at (AreSet xs) (param_at 0 w.call)
          (λ x. by_text (data_in x.found) (λ n. by_body w.body (λ t. gives (sets_partial n ∷ []))))
          (fails_for (param_not_found_for_index (codes "inline") 0))
          (λ x at. by_text-set xs (data_in x.found) (λ n. by_body w.body (λ t. gives (sets_partial n ∷ [])))
          (λ n held. by_body-set xs w.body n
          (literal-viewed xs w.call.params (params-viewed q xs w.call viewed) x at n held))) tt

      by : (k : DecoratorKind) → k ≡ kind_inline → IsAnswered p s (actions_of k w) (gives actions) → AreSet xs actions
      by kind_inline same is = given-gives (AreSet xs) (inline_actions w) actions is all
      by (kind_user called) same is = cc
