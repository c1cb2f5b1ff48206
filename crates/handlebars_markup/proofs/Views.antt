-- Parameters and calls have values and views that are equal up to texts, in states that are.
use Rattle.std.proofs.Common.{◌≡◌, Bool, true, false, List, [], ◌∷◌, Option, None, Some, refl, ap, subst}
use Rattle.std.specs.List.{slice_get}
use Rattle.serde_json.specs.Data.{Data}
use Rattle.handlebars_base.specs.Answers.{Answer, gives, fails, answer_map}
use Rattle.handlebars_base.specs.Bytes.{Text}
use Rattle.handlebars_base.specs.Path.{Reference, raw_of}
use Rattle.handlebars_base.specs.PathAndData.{PathAndData}
use Rattle.handlebars_base.specs.Reasons.{helper_not_found}
use Rattle.handlebars_base.specs.RenderRefusals.{plain_refusal}
use Rattle.handlebars_base.specs.Scoped.{Found, walked, value, missing}
use Rattle.handlebars_base.specs.Values.{rendered}
use Rattle.handlebars_template.specs.Tree.{Element, raw_string, html_expression, escaped_expression, helper_block, decorator_expression, decorator_block, partial_expression, partial_block, comment, call, Args, args, args_params, args_hash, Param, name, path, literal, subexpression, Params, no_params, param, Hash, no_hash, hash_pair, lacks_hash, Binding, no_body}
use Rattle.handlebars_scope.specs.Resolve.{resolve}
use Rattle.handlebars_helpers.specs.CallView.{CallView}
use Rattle.handlebars_helpers.specs.Callee.{built, user, Target, calls_registered, calls_local}
use Rattle.handlebars_helpers.specs.Choice.{Choice, the_body, the_inverse, body_in_block, body_in_iterations, the_value, the_boolean, nothing, built_in_choice}
use Rattle.handlebars_semantics.specs.Asks.{Asks, only}
use Rattle.handlebars_semantics.specs.State.{Setting, State, data_at, helper_for}
use Rattle.handlebars_semantics.specs.Values.{is_literal, as_written, view_without_bodies, choice_value, HasHelpedValue, without_path, as_read, path_value, is_written, is_viewed, HasValue, HasInnerValue, HasName, HaveValues, HashHasValues, HasView}
use Rattle.handlebars_markup.specs.Alike.{AreAlike}
use Rattle.handlebars_markup.specs.Blind.{calls_blind, IsStaticName, IsLiteralFirst, AreBlindArgs, IsBlindInner, IsBlindParam, AreBlindParams, IsBlindHash}
use Rattle.handlebars_markup.specs.TwoRuns.{registrations}
use Rattle.handlebars_markup.proofs.Alikeness.{AreAlikeOptions, AreAlikeLists, AreAlikeAnswers, AreAlikeFound, AreAlikeParams, AreAlikeHash, AreAlikeViews, AreAlikeChoices}
use Rattle.handlebars_markup.proofs.Asked.{AreAnswered, only-answered, then-answered, AreAlikeAnswers-weaker, AreAnswered-weaker}
use Rattle.handlebars_markup.proofs.Choices.{built_in_choice-alike}
use Rattle.handlebars_markup.proofs.States.{AreAlikeStates}
use Rattle.handlebars_markup.proofs.Targets.{IsBlindTarget, helper_for-alike}
use Rattle.handlebars_markup.proofs.TwoSettings.{HasTwin, twin}
use Rattle.handlebars_markup.proofs.Values.{AreAlike-self, answer_map-alike, unwrap_or-alike}
use Rattle.handlebars_markup.proofs.Resolutions.{resolve-alike}

-- ---- what is known of two values, and of two views

-- equal up to texts, and equal if a literal is written
abbrev pub AreValuesOf : Param → Found → Found → Type 0
AreValuesOf q v w = AreAlikeFound v w × (is_literal q ≡ true → v ≡ w)

abbrev pub AreWrittenOf : Param → PathAndData → PathAndData → Type 0
AreWrittenOf q v w = AreAlikeParams v w × (is_literal q ≡ true → v ≡ w)

-- equal up to texts, and the first equal if a literal is there
abbrev pub AreParamsOf : Params → List PathAndData → List PathAndData → Type 0
AreParamsOf qs vs ws = AreAlikeLists AreAlikeParams vs ws × (IsLiteralFirst qs → slice_get vs 0 ≡ slice_get ws 0)

-- equal up to texts, and none if none are written
abbrev pub IsHashOf : Hash → List (Text × PathAndData) → List (Text × PathAndData) → Type 0
IsHashOf hs vs ws = AreAlikeLists AreAlikeHash vs ws × (lacks_hash hs ≡ true → vs ≡ [])

-- the same name, which passes the test
abbrev pub IsSameName : (Text → Bool) → Text → Text → Type 0
IsSameName test n m = (n ≡ m) × (test n ≡ true)

pub record AreViewsOf (test : Text → Bool) (xs : Args) (v w : CallView) : Type 0 where
  pub views : AreAlikeViews v w
  pub passes : test v.name ≡ true
  pub first : IsLiteralFirst (args_params xs) → slice_get v.params 0 ≡ slice_get w.params 0
  pub lone : lacks_hash (args_hash xs) ≡ true → v.hash ≡ []

true-not_false : {P : Type 0} → false ≡ true → P
true-not_false is = cc

is_literal-first : (q : Param) (qs : Params) → IsLiteralFirst (param q qs) → is_literal q ≡ true
is_literal-first (name n) qs is = absurd is
is_literal-first (path r) qs is = absurd is
is_literal-first (literal d) qs is = refl
is_literal-first (subexpression e) qs is = absurd is

-- a name that is written is no call in parentheses
pub IsStaticName-param : (test : Text → Bool) (p : Setting) (q : Param) → IsStaticName test q
    → IsBlindParam (registrations p.parts) q
IsStaticName-param test p (name n) is = tt
IsStaticName-param test p (path r) is = tt
IsStaticName-param test p (literal d) is = tt
IsStaticName-param test p (subexpression e) is = absurd is

-- ---- values

choice_value-alike : (x y : Choice) → AreAlikeChoices x y → AreAlikeFound (choice_value x) (choice_value y)
choice_value-alike the_body the_body h = tt
choice_value-alike the_inverse the_inverse h = tt
choice_value-alike (body_in_block base) (body_in_block other) h = tt
choice_value-alike (body_in_iterations ns ts) (body_in_iterations ms us) h = tt
choice_value-alike (the_value d) (the_value e) h = h
choice_value-alike (the_boolean b) (the_boolean c) h = h
choice_value-alike nothing nothing h = tt
choice_value-alike x y h = absurd h

without_path-alike : (v w : Found) → AreAlikeFound v w → AreAlikeFound (without_path v) (without_path w)
without_path-alike (walked d ns) (walked e ms) h = h.0
without_path-alike (value d) (value e) h = h
without_path-alike missing missing h = tt
without_path-alike v w h = absurd h

as_read-alike : (o q : Option Data) (a b : Answer Found) → AreAlikeOptions AreAlike o q → AreAlikeAnswers AreAlikeFound a b
    → AreAlikeAnswers AreAlikeFound (as_read o a) (as_read q b)
as_read-alike None None a b h k = k
as_read-alike (Some d) (Some e) a b h k =
    answer_map-alike AreAlikeFound AreAlikeFound a b without_path without_path k without_path-alike
as_read-alike o q a b h k = absurd h

as_written-alike : (q : Param) (v w : Found) → AreValuesOf q v w → AreWrittenOf q (as_written q v) (as_written q w)
as_written-alike q v w h = (record { path = refl; found = h.0 }, λ is. ap (as_written q) (h.1 is))

is_written-alike : (q : Param) (m n : Asks Found) → AreAnswered (AreValuesOf q) m n
    → AreAnswered (AreWrittenOf q) (is_written q m) (is_written q n)
is_written-alike q m n h = then-answered (AreValuesOf q) (AreWrittenOf q) m n (λ v. only (gives (as_written q v)))
    (λ w. only (gives (as_written q w))) h
    (λ v w k. only-answered (AreWrittenOf q) (gives (as_written q v)) (gives (as_written q w)) (as_written-alike q v w k))

is_viewed-alike : (test : Text → Bool) (xs : Args) (m m' : Asks Text) (n n' : Asks (List PathAndData))
    (o o' : Asks (List (Text × PathAndData))) → AreAnswered (IsSameName test) m m'
    → AreAnswered (AreParamsOf (args_params xs)) n n' → AreAnswered (IsHashOf (args_hash xs)) o o'
    → AreAnswered (AreViewsOf test xs) (is_viewed m n o) (is_viewed m' n' o')
is_viewed-alike test xs m m' n n' o o' named valued paired =
    then-answered (IsSameName test) (AreViewsOf test xs) m m' _ _ named (λ a b e.
    then-answered (AreParamsOf (args_params xs)) (AreViewsOf test xs) n n' _ _ valued (λ vs us k.
    then-answered (IsHashOf (args_hash xs)) (AreViewsOf test xs) o o' _ _ paired (λ ws zs g.
    only-answered (AreViewsOf test xs) (gives (record { name = a; params = vs; hash = ws }))
    (gives (record { name = b; params = us; hash = zs })) (record {
      views = record { name = e.0; params = k.0; hash = g.0 };
      passes = e.1;
      first = k.1;
      lone = g.1;
    }))))

module _ (p : Setting) (w : HasTwin p) (s t : State) (h : AreAlikeStates (registrations p.parts) s t) where
  pub path_value-alike : (l : Reference) → AreAlikeAnswers AreAlikeFound (path_value p s l) (path_value (twin p w) t l)
  path_value-alike l =
      let here = resolve s.recursive s.blocks l (data_at p s) in
      as_read-alike s.changed t.changed here (resolve t.recursive t.blocks l (data_at (twin p w) t)) h.changed
      (subst (λ (z : Bool). AreAlikeAnswers AreAlikeFound here (resolve z t.blocks l (data_at (twin p w) t))) h.recursive
      (resolve-alike s.blocks t.blocks h.blocks s.recursive l (data_at p s) (data_at (twin p w) t)
      (unwrap_or-alike AreAlike s.changed t.changed p.given w.other h.changed w.alike)))

  -- ---- calls in parentheses

  HasHelpedValue-target : (b : Binding) (v u : CallView) → AreAlikeViews v u → (k : Option Target) → IsBlindTarget k
      → AreAnswered AreAlikeFound (HasHelpedValue p s k (view_without_bodies b v))
      (HasHelpedValue (twin p w) t k (view_without_bodies b u))
  HasHelpedValue-target b v u k None blind =
      only-answered AreAlikeFound (fails (plain_refusal (helper_not_found v.name)))
      (fails (plain_refusal (helper_not_found u.name))) (ap (λ (z : Text). plain_refusal (helper_not_found z)) k.name)
  HasHelpedValue-target b v u k (Some (calls_registered (built kind))) blind =
      let first = built_in_choice p.parts.strict kind (view_without_bodies b v) in
      let second = built_in_choice p.parts.strict kind (view_without_bodies b u) in
      only-answered AreAlikeFound (answer_map choice_value first) (answer_map choice_value second)
      (answer_map-alike AreAlikeChoices AreAlikeFound first second choice_value choice_value
      (built_in_choice-alike p.parts.strict b no_body no_body false v u k kind blind) choice_value-alike)
  HasHelpedValue-target b v u k (Some (calls_registered (user n))) blind = true-not_false blind
  HasHelpedValue-target b v u k (Some (calls_local n)) blind = absurd blind

  HasHelpedValue-alike : (b : Binding) (v u : CallView) → AreAlikeViews v u
      → calls_blind (registrations p.parts) v.name ≡ true
      → AreAnswered AreAlikeFound (HasHelpedValue p s (helper_for p.parts s false v.name) (view_without_bodies b v))
      (HasHelpedValue (twin p w) t (helper_for p.parts t false u.name) (view_without_bodies b u))
  HasHelpedValue-alike b v u k is =
      let target = helper_for p.parts s false v.name in
      let same = helper_for-alike p.parts s t h w.blind.parts false v.name u.name k.name is in
      subst (λ (o : Option Target). AreAnswered AreAlikeFound (HasHelpedValue p s target (view_without_bodies b v))
      (HasHelpedValue (twin p w) t o (view_without_bodies b u))) same.0 (HasHelpedValue-target b v u k target same.1)

  HasName-alike : (test : Text → Bool) (q : Param) → IsStaticName test q
      → AreAnswered (IsSameName test) (HasName p s q) (HasName (twin p w) t q)
  HasName-alike test (name n) is = only-answered (IsSameName test) (gives n) (gives n) (refl, is)
  HasName-alike test (path l) is = only-answered (IsSameName test) (gives (raw_of l)) (gives (raw_of l)) (refl, is)
  HasName-alike test (literal d) is = only-answered (IsSameName test) (gives (rendered d)) (gives (rendered d)) (refl, is)
  HasName-alike test (subexpression e) is = absurd is

  -- ---- parameters

  mutual
    pub HasValue-alike : (q : Param) → IsBlindParam (registrations p.parts) q
        → AreAnswered (AreValuesOf q) (HasValue p s q) (HasValue (twin p w) t q)
    HasValue-alike (name n) is = only-answered (AreValuesOf (name n)) (gives missing) (gives missing) (tt, λ e. refl)
    HasValue-alike (path l) is =
        only-answered (AreValuesOf (path l)) (path_value p s l) (path_value (twin p w) t l)
        (AreAlikeAnswers-weaker AreAlikeFound (AreValuesOf (path l)) (path_value p s l) (path_value (twin p w) t l)
        (path_value-alike l) (λ x y k. (k, λ e. true-not_false e)))
    HasValue-alike (literal d) is =
        only-answered (AreValuesOf (literal d)) (gives (value d)) (gives (value d)) (AreAlike-self d, λ e. refl)
    HasValue-alike (subexpression e) is =
        AreAnswered-weaker AreAlikeFound (AreValuesOf (subexpression e)) (HasInnerValue p s e)
        (HasInnerValue (twin p w) t e) (HasInnerValue-alike e is) (λ x y k. (k, λ i. true-not_false i))

    HasInnerValue-alike : (e : Element) → IsBlindInner (registrations p.parts) e
        → AreAnswered AreAlikeFound (HasInnerValue p s e) (HasInnerValue (twin p w) t e)
    HasInnerValue-alike (raw_string x) is = only-answered AreAlikeFound (gives missing) (gives missing) tt
    HasInnerValue-alike (html_expression c) is = only-answered AreAlikeFound (gives missing) (gives missing) tt
    HasInnerValue-alike (escaped_expression (call n (args ps hs) b x marks)) is =
        let test = calls_blind (registrations p.parts) in
        then-answered (AreViewsOf test (args ps hs)) AreAlikeFound
        (is_viewed (HasName p s n) (HaveValues p s ps) (HashHasValues p s hs))
        (is_viewed (HasName (twin p w) t n) (HaveValues (twin p w) t ps) (HashHasValues (twin p w) t hs)) _ _
        (is_viewed-alike test (args ps hs) _ _ _ _ _ _ (HasName-alike test n is.0) (HaveValues-alike ps is.1.0)
        (HashHasValues-alike hs is.1.1)) (λ v u k. HasHelpedValue-alike b v u k.views k.passes)
    HasInnerValue-alike (helper_block c) is = only-answered AreAlikeFound (gives missing) (gives missing) tt
    HasInnerValue-alike (decorator_expression x) is = only-answered AreAlikeFound (gives missing) (gives missing) tt
    HasInnerValue-alike (decorator_block x) is = only-answered AreAlikeFound (gives missing) (gives missing) tt
    HasInnerValue-alike (partial_expression x) is = only-answered AreAlikeFound (gives missing) (gives missing) tt
    HasInnerValue-alike (partial_block x) is = only-answered AreAlikeFound (gives missing) (gives missing) tt
    HasInnerValue-alike (comment x) is = only-answered AreAlikeFound (gives missing) (gives missing) tt

    HaveValues-alike : (qs : Params) → AreBlindParams (registrations p.parts) qs
        → AreAnswered (AreParamsOf qs) (HaveValues p s qs) (HaveValues (twin p w) t qs)
    HaveValues-alike no_params is = only-answered (AreParamsOf no_params) (gives []) (gives []) (tt, λ e. refl)
    HaveValues-alike (param q qs) is =
        then-answered (AreWrittenOf q) (AreParamsOf (param q qs)) (is_written q (HasValue p s q))
        (is_written q (HasValue (twin p w) t q)) _ _
        (is_written-alike q (HasValue p s q) (HasValue (twin p w) t q) (HasValue-alike q is.0)) (λ x y k.
        then-answered (AreParamsOf qs) (AreParamsOf (param q qs)) (HaveValues p s qs) (HaveValues (twin p w) t qs) _ _
        (HaveValues-alike qs is.1) (λ xs ys e.
        only-answered (AreParamsOf (param q qs)) (gives (x ∷ xs)) (gives (y ∷ ys))
        ((k.0, e.0), λ i. ap (λ z. Some z) (k.1 (is_literal-first q qs i)))))

    HashHasValues-alike : (hs : Hash) → IsBlindHash (registrations p.parts) hs
        → AreAnswered (IsHashOf hs) (HashHasValues p s hs) (HashHasValues (twin p w) t hs)
    HashHasValues-alike no_hash is = only-answered (IsHashOf no_hash) (gives []) (gives []) (tt, λ e. refl)
    HashHasValues-alike (hash_pair key q hs) is =
        then-answered (AreWrittenOf q) (IsHashOf (hash_pair key q hs)) (is_written q (HasValue p s q))
        (is_written q (HasValue (twin p w) t q)) _ _
        (is_written-alike q (HasValue p s q) (HasValue (twin p w) t q) (HasValue-alike q is.0)) (λ x y k.
        then-answered (IsHashOf hs) (IsHashOf (hash_pair key q hs)) (HashHasValues p s hs)
        (HashHasValues (twin p w) t hs) _ _ (HashHasValues-alike hs is.1) (λ xs ys e.
        only-answered (IsHashOf (hash_pair key q hs)) (gives ((key, x) ∷ xs)) (gives ((key, y) ∷ ys))
        (((refl, k.0), e.0), λ i. true-not_false i)))

  pub HasView-alike : (test : Text → Bool) (n : Param) (xs : Args) → IsStaticName test n
      → AreBlindArgs (registrations p.parts) xs
      → AreAnswered (AreViewsOf test xs) (HasView p s n xs) (HasView (twin p w) t n xs)
  HasView-alike test n (args ps hs) is k = is_viewed-alike test (args ps hs) _ _ _ _ _ _ (HasName-alike test n is)
      (HaveValues-alike ps k.0) (HashHasValues-alike hs k.1)
