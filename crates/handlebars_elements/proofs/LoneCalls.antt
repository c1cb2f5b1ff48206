-- What expressions without parameters come to: calls of helpers, and values.
use Rattle.std.proofs.Common.{◌≡◌, ◌≢◌, true, false, [], Option, Some, None, Result, Err, refl, sym, ap, ◌∙◌, subst, inl, inr}
use Rattle.std.specs.declared.io.Error.{Error}
use Rattle.std.specs.Prelude.{unwrap_or}
use denote.MutBor.{MutBor}
use denote.Triple.Both.{Both}
use Rattle.serde_json.specs.Data.{Data}
use Rattle.handlebars_base.specs.Answers.{IsRefusal, gives, fails}
use Rattle.handlebars_base.specs.Bytes.{Text}
use Rattle.handlebars_base.specs.Path.{IsPath, Reference}
use Rattle.handlebars_base.specs.Reasons.{Refusal, helper_not_found, out_of_memory}
use Rattle.handlebars_base.specs.RenderRefusals.{plain_refusal, reason_in, refusal_of}
use Rattle.handlebars_base.specs.Scoped.{Found, walked, value, missing, present_in}
use Rattle.handlebars_base.specs.declared.error.render_error.RenderError.{RenderError}
use Rattle.handlebars_template.specs.Tree.{Call, Element, Param, as_name, call_args, call_name, is_value, literal, path, subexpression}
use Rattle.handlebars_template.specs.Tree as tree
use Rattle.handlebars_scope.specs.LineView.{line_of}
use Rattle.handlebars_helpers.specs.CallView.{CallView}
use Rattle.handlebars_helpers.specs.Callee.{Target}
use Rattle.handlebars_semantics.specs.Asks.{first_fails}
use Rattle.handlebars_semantics.specs.Execute.{view_with_bodies}
use Rattle.handlebars_semantics.specs.Means.{render_found, render_helped, render_lone, render_lone_as}
use Rattle.handlebars_semantics.specs.Occurrences.{Occurrence}
use Rattle.handlebars_semantics.specs.Questions.{helper_of, value_of, view_of}
use Rattle.handlebars_semantics.specs.Sections.{HasSectionPath, ReadsAsPath, reads, reads_not}
use Rattle.handlebars_semantics.specs.State.{Parts, Setting, State, helper_named}
use Rattle.handlebars_semantics.specs.Steps.{Prog, ask, ◌>>=◌}
use Rattle.handlebars_semantics.specs.Values.{HasName, HasValue}
use Rattle.handlebars_semantics.specs.Writing.{write_value}
use Rattle.handlebars_expand.specs.Boxed.{answer_of, error_of}
use Rattle.handlebars_expand.specs.View.{name_alone}
use Rattle.handlebars_expand.specs.declared.boxed.BoxedError.{BoxedError}
use Rattle.handlebars_expand.proofs.Asked.{gives-ask, fails-ask}
use Rattle.handlebars_expand.proofs.LoneValues.{view-alone}
use Rattle.handlebars_values.specs.View.{CapturedIn, setting_in, state_with, within}
use Rattle.handlebars_values.specs.declared.environment.Environment as environments
use Rattle.handlebars_values.specs.declared.run.Run.{Run}
use Rattle.handlebars_write.specs.ModeView.{ModeView}
use Rattle.handlebars_write.specs.View.{Answered, Holding, Moment, RefinesProg, goes_on, held_in, is_over, moment_at}
use Rattle.handlebars_write.specs.declared.sink.Sink.{Sink}
use Rattle.handlebars_write.proofs.Refinement.{memory_or, refines_prog-no_memory, refines_prog-no_value, refines_prog-value}
use Rattle.handlebars_elements.specs.Judgement.{ComesTo, LeadsInCall, LeadsTo, is_not_viewed, is_viewed}
use Rattle.handlebars_elements.specs.Left.{left_of, then_out}
use Rattle.handlebars_elements.specs.View.{moment}
use Rattle.handlebars_elements.specs.declared.next.Next.{Next}
use Rattle.handlebars_elements.proofs.LoneElements.{viewed-alone, viewed-fails}

present≢missing : (d : Data) → present_in missing ≡ Some d → ⊥
present≢missing d is = cc

None≢Some : {A : Type 0} {x : A} → None ≡ Some x → ⊥
None≢Some e = cc

-- a value that is not present is missing
missing-seen : (v : Found) → None ≡ present_in v → v ≡ missing
missing-seen (walked d names) is = absurd (None≢Some is)
missing-seen (value d) is = absurd (None≢Some is)
missing-seen missing is = refl

pub value-lacks : (p : Setting) (s : State) (q : Param) (v : Found) → HasValue p s q (gives v) → None ≡ present_in v
    → HasValue p s q (gives missing)
value-lacks p s q v has is = subst (λ (z : Found). HasValue p s q (gives z)) (missing-seen v is) has

module _ (p : Setting) (may : Error → Type 0) where
  -- what is left of a missing value is executed
  pub comes-then : (m left : Prog (Unit {0})) {before mid after : Moment} {r : Answered} → ComesTo p may m left before None mid
      → RefinesProg p left may mid r after → RefinesProg p m may before r after
  comes-then m left comes (goes_on c) = goes_on (λ k r last d. comes k r last (c k r last d))
  comes-then m left comes (is_over {e = e} {after = after} c) = is_over (λ k. comes k (Err e) after (c k))

  module _ (occurrence : Occurrence) (c : Call) where
    -- the helper of the name, or none
    pub lone-helped : (t : Text) (o : Option Target) {s : State} {h : Holding} {after : Moment} {r : Answered} → is_value c ≡ true
        → HasName p s (call_name c) (gives t) → o ≡ helper_named p.parts s t
        → RefinesProg p (render_lone_as occurrence c (name_alone t) o) may (moment_at s h) r after
        → RefinesProg p (render_lone occurrence c) may (moment_at s h) r after
    lone-helped t o {s = s} alone named is a =
        refines_prog-value p may (ask (view_of (call_name c) (call_args c))) (λ v. ask (helper_of v.name) >>= render_lone_as occurrence c v)
        (gives-ask p (view_of (call_name c) (call_args c)) (name_alone t) (view-alone p s c t alone named))
        (refines_prog-value p may (ask (helper_of t)) (render_lone_as occurrence c (name_alone t))
        (gives-ask p (helper_of t) o (ap (λ (z : Option Target). gives z) is)) a)

    -- the name fails
    pub lone-unnamed : (e : RenderError) {s next : State} {h : Holding}
        → (reason_in e ≢ out_of_memory → HasName p s (call_name c) (fails (refusal_of e)))
        → RefinesProg p (render_lone occurrence c) may (moment_at s h) (Err e) (moment_at next h)
    lone-unnamed e is =
        refines_prog-no_value p may (ask (view_of (call_name c) (call_args c))) (λ v. ask (helper_of v.name) >>= render_lone_as occurrence c v) e
        (λ other. fails-ask p (view_of (call_name c) (call_args c)) (first_fails (is other)))

    found-there : (v : CallView) (found : Found) (d : Data) {before after : Moment} {r : Answered} → present_in found ≡ Some d
        → RefinesProg p (write_value occurrence found) may before r after → RefinesProg p (render_found occurrence c v found) may before r after
    found-there v (walked e names) d is a = a
    found-there v (value e) d is a = a
    found-there v missing d is a = absurd (present≢missing d is)

    -- the value is written
    pub value-there : (v : CallView) (found : Found) (d : Data) {s : State} {h : Holding} {after : Moment} {r : Answered}
        → HasValue p s (call_name c) (gives found) → Some d ≡ present_in found
        → RefinesProg p (write_value occurrence found) may (moment_at s h) r after
        → RefinesProg p (render_lone_as occurrence c v None) may (moment_at s h) r after
    value-there v found d has is a = refines_prog-value p may (ask (value_of (call_name c))) (render_found occurrence c v)
        (gives-ask p (value_of (call_name c)) found has) (found-there v found d (sym is) a)

    -- there is none
    pub value-missing : (v : CallView) {s : State} {h : Holding} {after : Moment} {r : Answered} → HasValue p s (call_name c) (gives missing)
        → RefinesProg p (render_found occurrence c v missing) may (moment_at s h) r after
        → RefinesProg p (render_lone_as occurrence c v None) may (moment_at s h) r after
    value-missing v has a = refines_prog-value p may (ask (value_of (call_name c))) (render_found occurrence c v)
        (gives-ask p (value_of (call_name c)) missing has) a

-- a call of a target by a name alone
pub in_call-alone : {P O T : Type 0} (parts : P → Parts) (w : ModeView O) (x : environments.Environment P)
    (run : Both (MutBor Run) (MutBor Run)) (sink : Both (MutBor (Sink O T)) (MutBor (Sink O T))) (captured : CapturedIn (within x))
    (occurrence : Occurrence) (c : Call) (name : Text) (target : Target) (r : Result Next BoxedError) → is_value c ≡ true
    → LeadsInCall parts w x run sink captured occurrence false c name target r
    → LeadsTo (setting_in parts x) w.may_give (render_helped occurrence false c target (name_alone name))
    (moment captured run.entry.now (held_in w sink.entry.now))
    (λ y. then_out (line_of run.entry.now.line) (left_of occurrence (view_with_bodies false c (name_alone name)) y)) (answer_of r)
    (moment captured run.exit.now (held_in w sink.exit.now))
in_call-alone parts w x run sink captured occurrence c name target r alone (is_viewed v viewed leads) =
    subst (λ (z : CallView). LeadsTo (setting_in parts x) w.may_give (render_helped occurrence false c target z)
    (moment captured run.entry.now (held_in w sink.entry.now))
    (λ y. then_out (line_of run.entry.now.line) (left_of occurrence (view_with_bodies false c z) y)) (answer_of r)
    (moment captured run.exit.now (held_in w sink.exit.now)))
    (viewed-alone (setting_in parts x) (state_with captured run.entry.now) c name v alone viewed) leads
in_call-alone parts w x run sink captured occurrence c name target _ alone (is_not_viewed {e = e} same failing) =
    subst (λ (z : Holding). RefinesProg (setting_in parts x) (render_helped occurrence false c target (name_alone name)) w.may_give
    (moment captured run.entry.now (held_in w sink.entry.now)) (Err (error_of e)) (moment captured run.exit.now z)) (sym same)
    (elim (memory_or (reason_in (error_of e))) [
      | inl memory ↦ refines_prog-no_memory (setting_in parts x) w.may_give (error_of e) memory
      | inr other ↦ absurd (viewed-fails (setting_in parts x) (state_with captured run.entry.now) c name (refusal_of (error_of e)) alone (failing other))
    ])

-- ---- the paths of sections

pub section-by-path : (q : Param) (v : CallView) (x : Reference) → q ≡ path x → HasSectionPath q v (gives x)
section-by-path q v x is = subst (λ (z : Param). HasSectionPath z v (gives x)) (sym is) refl

pub section-by-name : (q : Param) (v : CallView) (n : Text) (x : Reference) → q ≡ tree.name n → IsPath n x → HasSectionPath q v (gives x)
section-by-name q v n x is leads = subst (λ (z : Param). HasSectionPath z v (gives x)) (sym is) (reads leads)

pub section-by-no-path : (q : Param) (n : Text) (e : RenderError) → q ≡ tree.name n → ((x : Reference) → IsPath n x → ⊥)
    → IsRefusal (plain_refusal (helper_not_found n)) e → reason_in e ≢ out_of_memory
    → HasSectionPath q (name_alone (unwrap_or (as_name q) [])) (fails (refusal_of e))
section-by-no-path q n e is never why other =
    subst (λ (z : Param). HasSectionPath z (name_alone (unwrap_or (as_name z) [])) (fails (refusal_of e))) (sym is)
    (subst (λ (z : Refusal). ReadsAsPath n (name_alone n) (fails z)) (sym (why other)) (reads_not never))

-- a literal or a call in parentheses is no name
pub literal-unwritten : (q : Param) (d : Data) (n : Text) → q ≡ literal d → as_name q ≡ Some n → ⊥
literal-unwritten q d n is written = None≢Some (sym (ap as_name is) ∙ written)

pub inner-unwritten : (q : Param) (e : Element) (n : Text) → q ≡ subexpression e → as_name q ≡ Some n → ⊥
inner-unwritten q e n is written = None≢Some (sym (ap as_name is) ∙ written)
