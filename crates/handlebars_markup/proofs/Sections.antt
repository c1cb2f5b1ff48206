-- What a call calls in states that are equal up to texts, and the view that the callee is shown. A section calls by the kind of
-- its value, and values that are equal up to texts are of one kind.
use Rattle.std.proofs.Common.{◌≡◌, Bool, true, false, ◌&&◌, Option, None, Some, refl, ap, subst}
use Rattle.serde_json.specs.Data.{Data, null, boolean, number, string, array, object}
use Rattle.handlebars_base.specs.Answers.{gives}
use Rattle.handlebars_base.specs.Bytes.{Text}
use Rattle.handlebars_base.specs.Path.{Reference}
use Rattle.handlebars_base.specs.Reasons.{helper_not_found}
use Rattle.handlebars_base.specs.RenderRefusals.{plain_refusal}
use Rattle.handlebars_base.specs.Scoped.{Found, data_in}
use Rattle.handlebars_template.specs.Tree.{Call, call_name, is_value, Param, name, path, literal, subexpression}
use Rattle.handlebars_helpers.specs.CallView.{CallView}
use Rattle.handlebars_helpers.specs.Callee.{built, Target, calls_registered}
use Rattle.handlebars_semantics.specs.Asks.{Asks, only, ◌>>=◌}
use Rattle.handlebars_semantics.specs.Questions.{HasCalled, IsAnswered, called_as}
use Rattle.handlebars_semantics.specs.Sections.{section_kind, section_call, without_helper, ReadsAsPath, reads, reads_not, HasSectionPath, HasSection, HasSectionIf}
use Rattle.handlebars_semantics.specs.State.{Setting, State, helper_for}
use Rattle.handlebars_semantics.specs.Values.{path_value}
use Rattle.handlebars_markup.specs.Alike.{AreAlike}
use Rattle.handlebars_markup.specs.Blind.{is_blind, calls_blind}
use Rattle.handlebars_markup.specs.TwoRuns.{registrations}
use Rattle.handlebars_markup.proofs.Alikeness.{AreAlikeAnswers, AreAlikeFound, AreAlikeViews}
use Rattle.handlebars_markup.proofs.Asked.{AreAnswered, only-answered, then-answered}
use Rattle.handlebars_markup.proofs.States.{AreAlikeStates}
use Rattle.handlebars_markup.proofs.Targets.{IsBlindTarget, IsSameTarget, helper_for-alike}
use Rattle.handlebars_markup.proofs.TwoSettings.{HasTwin, twin}
use Rattle.handlebars_markup.proofs.Values.{data_in-alike}
use Rattle.handlebars_markup.proofs.Views.{path_value-alike}

-- the same is called, it is blind, and it is shown views that are equal up to texts
abbrev pub AreAlikeCalls : Target × CallView → Target × CallView → Type 0
AreAlikeCalls x y = IsSameTarget x.0 y.0 × AreAlikeViews x.1 y.1

-- ---- kinds

section_kind-alike : (d e : Data) → AreAlike d e → section_kind d ≡ section_kind e
section_kind-alike null null h = refl
section_kind-alike (boolean b) (boolean c) h = refl
section_kind-alike (number n) (number m) h = refl
section_kind-alike (string s) (string t) h = refl
section_kind-alike (array ds) (array es) h = refl
section_kind-alike (object ms) (object ns) h = refl
section_kind-alike d e h = absurd h

section_kind-blind : (d : Data) → is_blind (section_kind d) ≡ true
section_kind-blind null = refl
section_kind-blind (boolean b) = refl
section_kind-blind (number n) = refl
section_kind-blind (string t) = refl
section_kind-blind (array ds) = refl
section_kind-blind (object ms) = refl

-- ---- sections

module _ (v u : CallView) (views : AreAlikeViews v u) where
  without_helper-alike : {A : Type 0} (R : A → A → Type 0) → AreAlikeAnswers R (without_helper v) (without_helper u)
  without_helper-alike R = ap (λ (z : Text). plain_refusal (helper_not_found z)) views.name

  without_helper-answered : {A : Type 0} (R : A → A → Type 0)
      → AreAnswered R (only (without_helper v)) (only (without_helper u))
  without_helper-answered R = only-answered R (without_helper v) (without_helper u) (without_helper-alike R)

  section_call-alike : (q : Param) (x y : Found) → AreAlikeFound x y
      → AreAlikeCalls (section_call q v x) (section_call q u y)
  section_call-alike q x y k = (
    (
      ap (λ z. calls_registered (built z)) (section_kind-alike (data_in x) (data_in y) (data_in-alike x y k)),
      section_kind-blind (data_in x),
    ),
    record { name = views.name; params = (record { path = refl; found = k }, tt); hash = views.hash },
  )

  -- Its path is of its name alone.
  ReadsAsPath-same : (n : Text) → AreAnswered (λ (l r : Reference). l ≡ r) (ReadsAsPath n v) (ReadsAsPath n u)
  ReadsAsPath-same n _ (reads {r = l} is) = (gives l, reads is, refl)
  ReadsAsPath-same n _ (reads_not is) =
      (without_helper u, reads_not is, without_helper-alike (λ (l r : Reference). l ≡ r))

  HasSectionPath-same : (q : Param) → AreAnswered (λ (l r : Reference). l ≡ r) (HasSectionPath q v) (HasSectionPath q u)
  HasSectionPath-same (name n) = ReadsAsPath-same n
  HasSectionPath-same (path l) = only-answered (λ (l r : Reference). l ≡ r) (gives l) (gives l) refl
  HasSectionPath-same (literal d) = without_helper-answered (λ (l r : Reference). l ≡ r)
  HasSectionPath-same (subexpression e) = without_helper-answered (λ (l r : Reference). l ≡ r)

-- what a section by this name acts on, at the end of this path
abbrev HasSectionAt : Setting → State → Param → CallView → Reference → Asks (Target × CallView)
HasSectionAt p s q v l = only (path_value p s l) >>= (λ found. only (gives (section_call q v found)))

module _ (p : Setting) (w : HasTwin p) (s t : State) (h : AreAlikeStates (registrations p.parts) s t) (v u : CallView)
    (views : AreAlikeViews v u) where
  HasSectionAt-alike : (q : Param) (l : Reference)
      → AreAnswered AreAlikeCalls (HasSectionAt p s q v l) (HasSectionAt (twin p w) t q u l)
  HasSectionAt-alike q l =
      then-answered AreAlikeFound AreAlikeCalls (only (path_value p s l)) (only (path_value (twin p w) t l)) _ _
      (only-answered AreAlikeFound (path_value p s l) (path_value (twin p w) t l) (path_value-alike p w s t h l)) (λ x y k.
      only-answered AreAlikeCalls (gives (section_call q v x)) (gives (section_call q u y))
      (section_call-alike v u views q x y k))

  HasSection-alike : (q : Param) → AreAnswered AreAlikeCalls (HasSection p s q v) (HasSection (twin p w) t q u)
  HasSection-alike q =
      then-answered (λ (l r : Reference). l ≡ r) AreAlikeCalls (HasSectionPath q v) (HasSectionPath q u)
      (HasSectionAt p s q v) (HasSectionAt (twin p w) t q u) (HasSectionPath-same v u views q) (λ l r same.
      subst (λ (z : Reference). AreAnswered AreAlikeCalls (HasSectionAt p s q v l) (HasSectionAt (twin p w) t q u z)) same
      (HasSectionAt-alike q l))

  HasSectionIf-alike : (b : Bool) (q : Param)
      → AreAnswered AreAlikeCalls (HasSectionIf b p s q v) (HasSectionIf b (twin p w) t q u)
  HasSectionIf-alike true q = HasSection-alike q
  HasSectionIf-alike false q = without_helper-answered v u views AreAlikeCalls

  -- ---- calls

  HasCalled-alike : (block : Bool) (c : Call) (o : Option Target) → IsBlindTarget o
      → AreAnswered AreAlikeCalls (HasCalled p s block c v o) (HasCalled (twin p w) t block c u o)
  HasCalled-alike block c None blind = HasSectionIf-alike (p.parts.sections && (block && is_value c)) (call_name c)
  HasCalled-alike block c (Some k) blind = only-answered AreAlikeCalls (gives (k, v)) (gives (k, u)) ((refl, blind), views)

  -- If what is registered under the name is blind, or nothing is registered under it, the same is called.
  pub called_as-alike : (block : Bool) (c : Call) → calls_blind (registrations p.parts) v.name ≡ true
      → AreAnswered AreAlikeCalls (IsAnswered p s (called_as block c v)) (IsAnswered (twin p w) t (called_as block c u))
  called_as-alike block c is =
      let target = helper_for p.parts s block v.name in
      let same = helper_for-alike p.parts s t h w.blind.parts block v.name u.name views.name is in
      subst (λ (o : Option Target). AreAnswered AreAlikeCalls (HasCalled p s block c v target)
      (HasCalled (twin p w) t block c u o)) same.0 (HasCalled-alike block c target same.1)
