-- What expressions without parameters lead to: calls of helpers, values, and what a missing value leaves.
use Rattle.std.proofs.Common.{◌≡◌, ◌≢◌, Bool, true, false, Option, Some, None, Result, Ok, Err, option_map, sym, ap, ◌∙◌, subst}
use Rattle.std.specs.Prelude.{if◌then◌else◌}
use Rattle.std.specs.declared.io.Error.{Error}
use Rattle.handlebars_base.specs.Answers.{Answer, IsRefusal, gives, fails, fails_for}
use Rattle.handlebars_base.specs.Bytes.{Text}
use Rattle.handlebars_base.specs.Reasons.{Refusal, missing_variable, out_of_memory}
use Rattle.handlebars_base.specs.RenderRefusals.{plain_refusal, reason_in, refusal_of}
use Rattle.handlebars_base.specs.Scoped.{missing}
use Rattle.handlebars_base.specs.declared.error.render_error.RenderError.{RenderError}
use Rattle.handlebars_template.specs.Tree.{Call, args, as_name, call, call_name, hash_pair, is_value, no_hash, no_params, param}
use Rattle.handlebars_helpers.specs.CallView.{CallView}
use Rattle.handlebars_helpers.specs.Callee.{Callee, Target, calls_registered}
use Rattle.handlebars_helpers.specs.Choice.{Choice}
use Rattle.handlebars_helpers.specs.UserView.{callee_of}
use Rattle.handlebars_helpers.specs.declared.user.Callee as declared
use Rattle.handlebars_semantics.specs.Asks.{goes_on, first_fails}
use Rattle.handlebars_semantics.specs.Execute.{execute, view_with_bodies}
use Rattle.handlebars_semantics.specs.Means.{render_found, render_hook}
use Rattle.handlebars_semantics.specs.Occurrences.{Occurrence}
use Rattle.handlebars_semantics.specs.Questions.{HasChoice, hook_for, hook_or_refusal}
use Rattle.handlebars_semantics.specs.State.{Parts, Setting, State, hook, registered_target}
use Rattle.handlebars_semantics.specs.Steps.{Prog, ask}
use Rattle.handlebars_expand.specs.View.{name_alone}
use Rattle.handlebars_expand.proofs.Asked.{gives-ask}
use Rattle.handlebars_write.specs.View.{Holding, Moment, moment_at}
use Rattle.handlebars_write.proofs.Choices.{refines_prog-no_choice}
use Rattle.handlebars_write.proofs.Refinement.{refines_prog-value}
use Rattle.handlebars_elements.specs.Chosen.{HasTargetChoice, IsViewedAs}
use Rattle.handlebars_elements.specs.Judgement.{LeadsTo}
use Rattle.handlebars_elements.specs.Left.{left_of}
use Rattle.handlebars_elements.specs.declared.next.Next.TheVariants as next
use Rattle.handlebars_elements.proofs.Settling.{leads-asked, leads-chosen, leads-unanswered}

-- ---- the view of a call that is a name alone

module _ (p : Setting) (s : State) where
  pub viewed-alone : (c : Call) (t : Text) (v : CallView) → is_value c ≡ true → IsViewedAs p s c t (gives v) → v ≡ name_alone t
  viewed-alone (call n (args no_params no_hash) b bs m) t v is (goes_on named (goes_on vs (goes_on ws same))) = cc
  viewed-alone (call n (args (param q qs) hs) b bs m) t v is viewed = cc
  viewed-alone (call n (args no_params (hash_pair k q hs)) b bs m) t v is viewed = cc

  pub viewed-fails : (c : Call) (t : Text) (r : Refusal) → is_value c ≡ true → IsViewedAs p s c t (fails r) → ⊥
  viewed-fails (call n (args no_params no_hash) b bs m) t r is (goes_on named (goes_on vs (goes_on ws same))) = cc
  viewed-fails (call n (args no_params no_hash) b bs m) t r is (goes_on named (goes_on vs (first_fails ws))) = cc
  viewed-fails (call n (args no_params no_hash) b bs m) t r is (goes_on named (first_fails vs)) = cc
  viewed-fails (call n (args no_params no_hash) b bs m) t r is (first_fails named) = cc
  viewed-fails (call n (args (param q qs) hs) b bs m) t r is viewed = cc
  viewed-fails (call n (args no_params (hash_pair k q hs)) b bs m) t r is viewed = cc

  -- what the target of a name alone chooses
  pub chosen-alone : (c : Call) (t : Text) (block : Bool) (target : Target) (a : Answer Choice) → is_value c ≡ true
      → HasTargetChoice p s block c t target a → HasChoice p s target (view_with_bodies block c (name_alone t)) a
  chosen-alone c t block target a is (goes_on {x = v} viewed has) =
      subst (λ (z : CallView). HasChoice p s target (view_with_bodies block c z) a) (viewed-alone c t v is viewed) has
  chosen-alone c t block target a is (first_fails {r = r} viewed) = absurd (viewed-fails c t r is viewed)

-- ---- missing values

-- the hook for a missing value, as the code calls it
pub hook-there : (parts : Parts) (callee : declared.Callee) (t : Text) (k : Target) → t ≡ hook false → Some (callee_of t callee) ≡ parts.helper t
    → k ≡ calls_registered (callee_of (hook false) callee) → registered_target parts (hook false) ≡ Some k
hook-there parts callee t k same there is =
    sym (ap (λ (z : Target). Some z) is ∙ ap (λ (z : Text). Some (calls_registered (callee_of z callee))) (sym same)
    ∙ ap (option_map (λ (z : Callee). calls_registered z)) (there ∙ ap parts.helper same))

pub hook-none : (parts : Parts) (t : Text) → t ≡ hook false → None ≡ parts.helper t → registered_target parts (hook false) ≡ None
hook-none parts t same none = sym (ap (option_map (λ (z : Callee). calls_registered z)) (none ∙ ap parts.helper same))

module _ (p : Setting) (may : Error → Type 0) (occurrence : Occurrence) (c : Call) (t : Text) where
  hooked-lenient : (o : Option Target) → p.parts.strict ≡ false → registered_target p.parts (hook false) ≡ o
      → hook_or_refusal p.parts (call_name c) ≡ gives o
  hooked-lenient o lenient is =
      ap (λ (z : Bool). if z then fails_for (missing_variable (as_name (call_name c))) else gives (registered_target p.parts (hook false))) lenient
      ∙ ap (λ (z : Option Target). gives z) is

  -- in strict mode
  pub missing-strict : {T : Type 0} (left : T → Prog (Unit {0})) (e : RenderError) {s next : State} {h : Holding} → p.parts.strict ≡ true
      → IsRefusal (plain_refusal (missing_variable (as_name (call_name c)))) e
      → LeadsTo p may (render_found occurrence c (name_alone t) missing) (moment_at s h) left (Err e) (moment_at next h)
  missing-strict left e strict why =
      leads-unanswered p may (hook_for (call_name c)) (render_hook occurrence c (name_alone t)) left e
      (λ other. ap (λ (z : Refusal). fails z) (why other)
      ∙ sym (ap (λ (z : Bool). if z then fails_for (missing_variable (as_name (call_name c))) else gives (registered_target p.parts (hook false))) strict))

  -- what the hook chose is executed
  pub missing-hooked : {T : Type 0} (k : Target) (x : Choice) (left : T → Prog (Unit {0})) (r : Result T RenderError) (s : State) (h : Holding)
      (after : Moment) → is_value c ≡ true → p.parts.strict ≡ false → registered_target p.parts (hook false) ≡ Some k
      → HasTargetChoice p s false c t k (gives x)
      → LeadsTo p may (execute occurrence (view_with_bodies false c (name_alone t)) x) (moment_at s h) left r after
      → LeadsTo p may (render_found occurrence c (name_alone t) missing) (moment_at s h) left r after
  missing-hooked k x left r s h after alone lenient is has leads =
      leads-asked p may (hook_for (call_name c)) (Some k) (render_hook occurrence c (name_alone t)) left r s h after
      (sym (hooked-lenient (Some k) lenient is))
      (leads-chosen p may occurrence k (view_with_bodies false c (name_alone t)) x left r s h after
      (chosen-alone p s c t false k (gives x) alone has) leads)

  -- the hook fails
  pub missing-failed : {T : Type 0} (k : Target) (left : T → Prog (Unit {0})) (e : RenderError) {s next : State} {h : Holding}
      → is_value c ≡ true → p.parts.strict ≡ false → registered_target p.parts (hook false) ≡ Some k
      → (reason_in e ≢ out_of_memory → HasTargetChoice p s false c t k (fails (refusal_of e)))
      → LeadsTo p may (render_found occurrence c (name_alone t) missing) (moment_at s h) left (Err e) (moment_at next h)
  missing-failed k left e {s = s} {next = next} {h = h} alone lenient is failing =
      refines_prog-value p may (ask (hook_for (call_name c))) (render_hook occurrence c (name_alone t))
      (gives-ask p (hook_for (call_name c)) (Some k) (sym (hooked-lenient (Some k) lenient is)))
      (refines_prog-no_choice p may occurrence k (view_with_bodies false c (name_alone t)) e
      (λ other. chosen-alone p s c t false k (fails (refusal_of e)) alone (failing other)))

  -- there is no hook
  pub missing-nothing : (w : _) (s : State) (h : Holding) → p.parts.strict ≡ false → registered_target p.parts (hook false) ≡ None
      → LeadsTo p may (render_found occurrence c (name_alone t) missing) (moment_at s h) (left_of occurrence w) (Ok next.Nothing) (moment_at s h)
  missing-nothing w s h lenient is =
      leads-asked p may (hook_for (call_name c)) None (render_hook occurrence c (name_alone t)) (left_of occurrence w) (Ok next.Nothing) s h
      (moment_at s h) (sym (hooked-lenient None lenient is)) (λ k r last d. d)
