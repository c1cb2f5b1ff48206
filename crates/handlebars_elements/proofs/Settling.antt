-- What calls lead to, and what is left of them.
use Rattle.std.proofs.Common.{◌≡◌, ◌≢◌, ◌&&◌, Bool, true, false, Option, Some, None, is_some, Result, Ok, Err, refl, sym, ap, ◌∙◌, subst, inl, inr}
use Rattle.std.specs.Prelude.{IfOk}
use Rattle.std.specs.declared.io.Error.{Error}
use Rattle.std.specs.Result.{IsErrAnd}
use denote.MutBor.{MutBor}
use denote.Triple.Both.{Both}
use Rattle.serde_json.specs.Data.{Data}
use Rattle.handlebars_base.specs.Answers.{Answer, IsRefusal, gives, fails}
use Rattle.handlebars_base.specs.Bytes.{Text}
use Rattle.handlebars_base.specs.Reasons.{Refusal, helper_not_found, out_of_memory}
use Rattle.handlebars_base.specs.RenderRefusals.{plain_refusal, reason_in, refusal_of}
use Rattle.handlebars_base.specs.declared.error.render_error.RenderError.{RenderError}
use Rattle.handlebars_template.specs.Tree.{Call, CallMarks, Param, as_name, call_args, call_marks, call_name, is_value, literal, path, subexpression}
use Rattle.handlebars_template.specs.Tree as tree
use Rattle.handlebars_template.specs.TreeView.{call_view, param_view}
use Rattle.handlebars_template.specs.declared.template.tree.HelperTemplate.{HelperTemplate, out-HelperTemplate}
use Rattle.handlebars_template.proofs.Levels.{call_marks-view, call_name-view}
use Rattle.handlebars_scope.specs.LineState.{LineState}
use Rattle.handlebars_scope.specs.LineView.{line_of}
use Rattle.handlebars_helpers.specs.CallView.{CallView, HelperView}
use Rattle.handlebars_helpers.specs.Callee.{Target}
use Rattle.handlebars_helpers.specs.Choice.{Choice}
use Rattle.handlebars_semantics.specs.Asks.{goes_on, first_fails}
use Rattle.handlebars_semantics.specs.Execute.{execute, view_with_bodies}
use Rattle.handlebars_semantics.specs.Means.{line_in, line_out, on_line, render_call, render_chosen, render_helped}
use Rattle.handlebars_semantics.specs.Occurrences.{Occurrence}
use Rattle.handlebars_semantics.specs.Questions.{HasCalled, HasChoice, IsAnswered, Question, Reply, called_as, view_of}
use Rattle.handlebars_semantics.specs.Runs.{asked}
use Rattle.handlebars_semantics.specs.Sections.{HasSectionIf, without_helper}
use Rattle.handlebars_semantics.specs.State.{Parts, Setting, State, helper_for}
use Rattle.handlebars_semantics.specs.Steps.{Get, Prog, Set, Steps, ask, ◌>>=◌, ◌>>◌}
use Rattle.handlebars_semantics.specs.Values.{HasName, HasView}
use Rattle.handlebars_expand.specs.Boxed.{answer_of, error_of}
use Rattle.handlebars_expand.specs.View.{ValueFails, name_alone}
use Rattle.handlebars_expand.specs.declared.boxed.BoxedError.{BoxedError}
use Rattle.handlebars_expand.proofs.Asked.{fails-ask, fails-bind, gives-ask}
use Rattle.handlebars_expand.proofs.BoundCalls.{choice-entered}
use Rattle.handlebars_values.specs.View.{CapturedIn, setting_in, state_with, within}
use Rattle.handlebars_values.specs.declared.environment.Environment as declared
use Rattle.handlebars_values.specs.declared.run.Run.{Run}
use Rattle.handlebars_write.specs.ModeView.{ModeView}
use Rattle.handlebars_write.specs.View.{Holding, Moment, RefinesProg, RefinesSteps, held_in, is_over, moment_at}
use Rattle.handlebars_write.specs.declared.sink.Sink.{Sink}
use Rattle.handlebars_write.proofs.Choices.{refines-choice, refines_prog-choice, refines_prog-fails, refines_prog-no_choice}
use Rattle.handlebars_write.proofs.Refinement.{memory_or, refines-get, refines-set, refines-value, refines_prog-no_value, refines_prog-value}
use Rattle.handlebars_elements.specs.Chosen.{FailsFor, FailsNext, HasTargetChoice, IsViewedAs}
use Rattle.handlebars_elements.specs.Judgement.{LeadsInCall, LeadsTo, LeadsWith, is_not_viewed, is_viewed}
use Rattle.handlebars_elements.specs.Left.{IsLeftWithoutHelper, IsNextIfCalled, IsNextOf, IsSectionIfLeft, left_in_call, left_of, then_out}
use Rattle.handlebars_elements.specs.View.{moment}
use Rattle.handlebars_elements.specs.declared.next.Next.{Next}
use Rattle.handlebars_elements.specs.declared.next.Next.TheVariants as next
use Rattle.handlebars_elements.proofs.TargetChoices.{viewed-name}

-- ---- sections among what is left

pub left-as-called : (occurrence : Occurrence) (block : Bool) (c : Call) (v : CallView) (old : LineState) (x : Next) → x ≢ next.Section
    → left_in_call occurrence block c v old x ≡ then_out old (left_of occurrence (view_with_bodies block c v) x)
left-as-called occurrence block c v old next.Nothing other = refl
left-as-called occurrence block c v old next.Body other = refl
left-as-called occurrence block c v old next.Inverse other = refl
left-as-called occurrence block c v old (next.With x) other = refl
left-as-called occurrence block c v old (next.Each x) other = refl
left-as-called occurrence block c v old (next.Steps steps) other = refl
left-as-called occurrence block c v old next.Section other = absurd (other refl)

pub no-section : (d : Data) (x : Next) → IsNextOf d x → x ≢ next.Section
no-section d x is same = subst (λ (z : Next). IsNextOf d z) same is

-- ---- what leads to what is left

module _ (p : Setting) (may : Error → Type 0) where
  -- a question that has an answer
  pub leads-asked : {T : Type 0} (q : Question) (a : Reply q) (f : Reply q → Prog (Unit {0})) (left : T → Prog (Unit {0}))
      (r : Result T RenderError) (s : State) (h : Holding) (after : Moment) → IsAnswered p s q (gives a)
      → LeadsTo p may (f a) (moment_at s h) left r after → LeadsTo p may (ask q >>= f) (moment_at s h) left r after
  unfolding ◌>>=◌
  leads-asked q a f left (Ok x) s h after has leads = λ k r last d. refines-value p may (ask q) (λ z. f z k) (gives-ask p q a has) (leads k r last d)
  leads-asked q a f left (Err e) s h after has leads = refines_prog-value p may (ask q) f (gives-ask p q a has) leads

  -- one that fails
  pub leads-unanswered : {T : Type 0} (q : Question) (f : Reply q → Prog (Unit {0})) (left : T → Prog (Unit {0})) (e : RenderError)
      {s next : State} {h : Holding} → (reason_in e ≢ out_of_memory → IsAnswered p s q (fails (refusal_of e)))
      → LeadsTo p may (ask q >>= f) (moment_at s h) left (Err e) (moment_at next h)
  leads-unanswered q f left e is = refines_prog-no_value p may (ask q) f e (λ other. fails-ask p q (is other))

  -- what a helper chose is executed
  pub leads-chosen : {T : Type 0} (occurrence : Occurrence) (target : Target) (w : HelperView) (x : Choice) (left : T → Prog (Unit {0}))
      (r : Result T RenderError) (s : State) (h : Holding) (after : Moment) → HasChoice p s target w (gives x)
      → LeadsTo p may (execute occurrence w x) (moment_at s h) left r after
      → LeadsTo p may (render_chosen occurrence target w) (moment_at s h) left r after
  leads-chosen occurrence target w x left (Ok y) s h after has leads = λ k r last d.
      refines-choice p may occurrence target w x k has (leads k r last d)
  leads-chosen occurrence target w x left (Err e) s h after has leads = refines_prog-choice p may occurrence target w x has leads

  over-line : (enter : LineState → LineState) (m : Prog (Unit {0})) {s mid : State} {h : Holding} {e : RenderError} {after : Moment}
      → mid ≡ record s { line = enter s.line } → RefinesProg p m may (moment_at mid h) (Err e) after
      → RefinesProg p (on_line enter m) may (moment_at s h) (Err e) after
  unfolding ◌>>=◌ ◌>>◌
  over-line enter m {s = s} {h = h} {e = e} {after = after} is (is_over c) = is_over (λ k.
      let back : Unit {0} → Steps = λ v. Get (λ z. Set (record z { line = line_out s.line z.line }) (k tt)) in
      refines-get p may (refines-set p may
      (subst (λ (z : State). RefinesSteps p (m back) may (moment_at z h) (Err e) after) is (c back))))

  -- on another line
  pub leads-line : {T : Type 0} (enter : LineState → LineState) (m : Prog (Unit {0})) (left : T → Prog (Unit {0}))
      (r : Result T RenderError) (s mid : State) (h : Holding) (after : Moment) → mid ≡ record s { line = enter s.line }
      → LeadsTo p may m (moment_at mid h) left r after
      → LeadsTo p may (on_line enter m) (moment_at s h) (λ x. then_out s.line (left x)) r after
  unfolding ◌>>=◌ ◌>>◌
  leads-line enter m left (Ok x) s mid h after is leads = λ k r last d.
      let back : Unit {0} → Steps = λ v. Get (λ z. Set (record z { line = line_out s.line z.line }) (k tt)) in
      refines-get p may (refines-set p may
      (subst (λ (z : State). RefinesSteps p (m back) may (moment_at z h) r last) is (leads back r last d)))
  leads-line enter m left (Err e) s mid h after is leads = over-line enter m is leads

  -- ---- calls of a target

  module _ (occurrence : Occurrence) (block : Bool) (c : Call) (target : Target) (v : CallView) where
    -- the target chose, and what it chose is executed in the bracket of the call
    pub leads-helped : {T : Type 0} (x : Choice) (left : T → Prog (Unit {0})) (r : Result T RenderError) (s mid : State) (h : Holding)
        (after : Moment) → mid ≡ record s { line = line_in (call_marks c).indent_before_write s.line }
        → HasChoice p s target (view_with_bodies block c v) (gives x)
        → LeadsTo p may (execute occurrence (view_with_bodies block c v) x) (moment_at mid h) left r after
        → LeadsTo p may (render_helped occurrence block c target v) (moment_at s h) (λ y. then_out s.line (left y)) r after
    leads-helped x left r s mid h after is has leads =
        leads-line (line_in (call_marks c).indent_before_write) (render_chosen occurrence target (view_with_bodies block c v)) left r s mid h after is
        (leads-chosen occurrence target (view_with_bodies block c v) x left r mid h after
        (choice-entered p s mid (line_in (call_marks c).indent_before_write s.line) target (view_with_bodies block c v) (gives x) is has) leads)

    -- the target fails
    pub helped-failed : (e : RenderError) {s next : State} {h : Holding}
        → (reason_in e ≢ out_of_memory → HasChoice p s target (view_with_bodies block c v) (fails (refusal_of e)))
        → RefinesProg p (render_helped occurrence block c target v) may (moment_at s h) (Err e) (moment_at next h)
    helped-failed e {s = s} is =
        let l = line_in (call_marks c).indent_before_write s.line in
        over-line (line_in (call_marks c).indent_before_write) (render_chosen occurrence target (view_with_bodies block c v))
        {mid = record s { line = l }} refl (refines_prog-no_choice p may occurrence target (view_with_bodies block c v) e
        (λ other. choice-entered p s (record s { line = l }) l target (view_with_bodies block c v) (fails (refusal_of e)) refl (is other)))

-- ---- views of a call, by its name

viewed-by : (p : Setting) (s : State) (c : Call) (name : Text) (a : Answer CallView) → HasName p s (call_name c) (gives name)
    → IsViewedAs p s c name a → HasView p s (call_name c) (call_args c) a
viewed-by p s c name a has (goes_on {x = x} is rest) =
    let same : name ≡ x = cc in goes_on (subst (λ (z : Text). HasName p s (call_name c) (gives z)) same has) rest
viewed-by p s c name a has (first_fails is) = cc

-- ---- calls that have a target

module _ (p : Setting) (may : Error → Type 0) (occurrence : Occurrence) (block : Bool) (c : Call) (name : Text) where
  called-there : (s : State) (target : Target) (v : CallView) → helper_for p.parts s block name ≡ Some target → v.name ≡ name
      → IsAnswered p s (called_as block c v) (gives (target, v))
  called-there s target v is same =
      subst (λ (z : Option Target). HasCalled p s block c v z (gives (target, v)))
      (sym (ap (helper_for p.parts s block) same ∙ is)) refl

  -- a call that was viewed, and whose target leads to what is left of it
  pub leads-called : (target : Target) (v : CallView) (d : Data) (r : Result Next RenderError) (s : State) (h : Holding)
      (after : Moment) → HasName p s (call_name c) (gives name) → helper_for p.parts s block name ≡ Some target
      → IsViewedAs p s c name (gives v) → IfOk r (IsNextOf d)
      → LeadsTo p may (render_helped occurrence block c target v) (moment_at s h)
      (λ x. then_out s.line (left_of occurrence (view_with_bodies block c v) x)) r after
      → LeadsTo p may (render_call occurrence block c) (moment_at s h) (left_in_call occurrence block c v s.line) r after
  leads-called target v d r s h after named is viewed given leads =
      leads-asked p may (view_of (call_name c) (call_args c)) v
      (λ w. ask (called_as block c w) >>= (λ called. render_helped occurrence block c called.0 called.1))
      (left_in_call occurrence block c v s.line) r s h after (viewed-by p s c name (gives v) named viewed)
      (leads-asked p may (called_as block c v) (target, v) (λ called. render_helped occurrence block c called.0 called.1)
      (left_in_call occurrence block c v s.line) r s h after (called-there s target v is (viewed-name p s block c name v viewed))
      (as-left r given leads))
    where
      as-left : (r : Result Next RenderError) → IfOk r (IsNextOf d)
          → LeadsTo p may (render_helped occurrence block c target v) (moment_at s h)
          (λ x. then_out s.line (left_of occurrence (view_with_bodies block c v) x)) r after
          → LeadsTo p may (render_helped occurrence block c target v) (moment_at s h) (left_in_call occurrence block c v s.line) r after
      as-left (Ok x) given leads = λ k r last e. leads k r last
          (subst (λ (z : Prog (Unit {0})). RefinesSteps p (z k) may after r last)
          (left-as-called occurrence block c v s.line x (no-section d x given)) e)
      as-left (Err e) given leads = leads

  -- a call that was not viewed
  pub leads-unviewed : {T : Type 0} (left : T → Prog (Unit {0})) (e : RenderError) {s next : State} {h : Holding}
      → HasName p s (call_name c) (gives name) → (reason_in e ≢ out_of_memory → IsViewedAs p s c name (fails (refusal_of e)))
      → LeadsTo p may (render_call occurrence block c) (moment_at s h) left (Err e) (moment_at next h)
  leads-unviewed left e {s = s} named is =
      leads-unanswered p may (view_of (call_name c) (call_args c))
      (λ w. ask (called_as block c w) >>= (λ called. render_helped occurrence block c called.0 called.1)) left e
      (λ other. viewed-by p s c name (fails (refusal_of e)) named (is other))

-- a call whose name fails
pub leads-unnamed : {T : Type 0} (p : Setting) (may : Error → Type 0) (occurrence : Occurrence) (block : Bool) (c : Call)
    (left : T → Prog (Unit {0})) (e : RenderError) {s next : State} {h : Holding}
    → (reason_in e ≢ out_of_memory → HasName p s (call_name c) (fails (refusal_of e)))
    → LeadsTo p may (render_call occurrence block c) (moment_at s h) left (Err e) (moment_at next h)
leads-unnamed p may occurrence block c left e is =
    leads-unanswered p may (view_of (call_name c) (call_args c))
    (λ w. ask (called_as block c w) >>= (λ called. render_helped occurrence block c called.0 called.1)) left e
    (λ other. first_fails (is other))

-- ---- calls of a target, for any moments

module _ {P O T : Type 0} (parts : P → Parts) (w : ModeView O) (x : declared.Environment P) (run : Both (MutBor Run) (MutBor Run))
    (sink : Both (MutBor (Sink O T)) (MutBor (Sink O T))) (captured : CapturedIn (within x)) (occurrence : Occurrence) (block : Bool)
    (c : Call) (name : Text) (target : Target) where
  -- the state before the call, and what the output held
  abbrev at_start : State
  at_start = state_with captured run.entry.now

  -- What the target chose is executed in the bracket of the call.
  pub in_call-leads : (y : Choice) (r : Result Next BoxedError) (mid : State)
      → mid ≡ record at_start { line = line_in (call_marks c).indent_before_write (line_of run.entry.now.line) }
      → HasTargetChoice (setting_in parts x) at_start block c name target (gives y)
      → ((v : CallView) → LeadsTo (setting_in parts x) w.may_give (execute occurrence (view_with_bodies block c v) y)
      (moment_at mid (held_in w sink.entry.now)) (left_of occurrence (view_with_bodies block c v)) (answer_of r)
      (moment captured run.exit.now (held_in w sink.exit.now)))
      → LeadsInCall parts w x run sink captured occurrence block c name target r
  in_call-leads y r mid is (goes_on {x = v} viewed has) leads =
      is_viewed v viewed (leads-helped (setting_in parts x) w.may_give occurrence block c target v y
      (left_of occurrence (view_with_bodies block c v)) (answer_of r) at_start mid (held_in w sink.entry.now)
      (moment captured run.exit.now (held_in w sink.exit.now)) is has (leads v))

  -- The target fails, or viewing the call does.
  in_call-fails : (e : BoxedError) → held_in w sink.exit.now ≡ held_in w sink.entry.now
      → HasTargetChoice (setting_in parts x) at_start block c name target (fails (refusal_of (error_of e)))
      → LeadsInCall parts w x run sink captured occurrence block c name target (Err e)
  in_call-fails e same (goes_on {x = v} viewed has) =
      is_viewed v viewed (subst (λ (z : Holding). RefinesProg (setting_in parts x) (render_helped occurrence block c target v) w.may_give
      (moment_at at_start (held_in w sink.entry.now)) (Err (error_of e)) (moment captured run.exit.now z)) (sym same)
      (helped-failed (setting_in parts x) w.may_give occurrence block c target v (error_of e) (λ other. has)))
  in_call-fails e same (first_fails viewed) = is_not_viewed same (λ other. viewed)

  pub in_call-failed : (e : BoxedError) → held_in w sink.exit.now ≡ held_in w sink.entry.now
      → (reason_in (error_of e) ≢ out_of_memory
      → HasTargetChoice (setting_in parts x) at_start block c name target (fails (refusal_of (error_of e))))
      → LeadsInCall parts w x run sink captured occurrence block c name target (Err e)
  in_call-failed e same is = elim (memory_or (reason_in (error_of e))) [
    | inl memory ↦ is_not_viewed same (λ other. absurd (other memory))
    | inr other ↦ in_call-fails e same (is other)
  ]

  -- the same for an error that `?` propagates
  pub in_call-propagated : (r : Result Next BoxedError) (e : BoxedError) → IsErrAnd r (λ d. d ≡ e)
      → held_in w sink.exit.now ≡ held_in w sink.entry.now
      → (reason_in (error_of e) ≢ out_of_memory
      → HasTargetChoice (setting_in parts x) at_start block c name target (fails (refusal_of (error_of e))))
      → LeadsInCall parts w x run sink captured occurrence block c name target r
  in_call-propagated (Ok y) e is same failing = absurd is
  in_call-propagated (Err d) e is same failing =
      subst (λ (z : BoxedError). LeadsInCall parts w x run sink captured occurrence block c name target (Err z)) (sym is)
      (in_call-failed e same failing)

-- the line at the start of a call, whose tag is marked as the code says
pub entered-marked : (h : HelperTemplate) (s : State) (l old : LineState)
    → l ≡ line_in (out-HelperTemplate h).indent_before_write old
    → record s { line = l } ≡ record s { line = line_in (call_marks (call_view h)).indent_before_write old }
entered-marked h s l old is = ap (λ (z : LineState). record s { line = z })
    (is ∙ ap (λ (b : Bool). line_in b old) (sym (ap (λ (m : CallMarks). m.indent_before_write) (call_marks-view h))))

-- ---- calls without a helper

fails-after : (p : Setting) (q : Question) (a : Reply q) (f : Reply q → Prog (Unit {0})) {s : State} {r : Refusal}
    → IsAnswered p s q (gives a) → ValueFails p (f a) s r → ValueFails p (ask q >>= f) s r
unfolding ◌>>=◌
fails-after p q a f has is = λ k. asked (gives a) has (is k)

no-section-path : (p : Setting) (s : State) (v : CallView) (q : Param) (allowed : Bool) → (allowed && is_some (as_name q)) ≡ false
    → HasSectionIf allowed p s q v (without_helper v)
no-section-path p s v q false is = refl
no-section-path p s v (tree.name n) true is = cc
no-section-path p s v (path r) true is = cc
no-section-path p s v (literal d) true is = first_fails refl
no-section-path p s v (subexpression e) true is = first_fails refl

all-four : (a b c d : Bool) → (a && (b && (c && d))) ≡ ((a && (b && c)) && d)
all-four true true c d = refl
all-four true false c d = refl
all-four false b c d = refl

module _ (p : Setting) (s : State) (block : Bool) (c : Call) (name : Text) (named : HasName p s (call_name c) (gives name))
    (none : helper_for p.parts s block name ≡ None) where
  called-nothing : (v : CallView) → v.name ≡ name
      → (p.parts.sections && (block && (is_value c && is_some (as_name (call_name c))))) ≡ false
      → IsAnswered p s (called_as block c v) (without_helper v)
  called-nothing v same is =
      subst (λ (z : Option Target). HasCalled p s block c v z (without_helper v)) (sym (ap (helper_for p.parts s block) same ∙ none))
      (no-section-path p s v (call_name c) (p.parts.sections && (block && is_value c))
      (sym (all-four p.parts.sections block (is_value c) (is_some (as_name (call_name c)))) ∙ is))

  fails-unhelped : (own : RenderError) (r : Refusal) (occurrence : Occurrence) → r.reason ≢ out_of_memory
      → (p.parts.sections && (block && (is_value c && is_some (as_name (call_name c))))) ≡ false
      → IsRefusal (plain_refusal (helper_not_found name)) own
      → FailsNext p s c name own r → ValueFails p (render_call occurrence block c) s r
  fails-unhelped own r occurrence other is why (goes_on {x = v} viewed failing) =
      let same : r ≡ refusal_of own = cc in
      let name_is = viewed-name p s block c name v viewed in
      let refused = same ∙ why (subst (λ (z : Refusal). z.reason ≢ out_of_memory) same other)
      ∙ ap (λ (t : Text). plain_refusal (helper_not_found t)) (sym name_is) in
      fails-after p (view_of (call_name c) (call_args c)) v
      (λ w. ask (called_as block c w) >>= (λ called. render_helped occurrence block c called.0 called.1))
      (viewed-by p s c name (gives v) named viewed)
      (fails-bind p (ask (called_as block c v)) (λ called. render_helped occurrence block c called.0 called.1)
      (fails-ask p (called_as block c v) (subst (λ (z : Refusal). IsAnswered p s (called_as block c v) (fails z)) (sym refused)
      (called-nothing v name_is is))))
  fails-unhelped own r occurrence other is why (first_fails viewed) =
      fails-bind p (ask (view_of (call_name c) (call_args c)))
      (λ w. ask (called_as block c w) >>= (λ called. render_helped occurrence block c called.0 called.1))
      (fails-ask p (view_of (call_name c) (call_args c)) (viewed-by p s c name (fails r) named viewed))

  -- any other call fails
  pub left-failed : (own e : RenderError) → (p.parts.sections && (block && (is_value c && is_some (as_name (call_name c))))) ≡ false
      → IsRefusal (plain_refusal (helper_not_found name)) own → FailsFor p s c name own e
      → IsLeftWithoutHelper p s block c (Err e)
  left-failed own e is why failing = λ other occurrence. fails-unhelped own (refusal_of e) occurrence other is why (failing other)

-- ---- what is left without a helper

module _ (p : Setting) (s : State) (block : Bool) (c : Call) where
  -- the whole call
  pub leads-without : (may : Error → Type 0) (occurrence : Occurrence) (v : CallView) (old : LineState) (r : Result Next RenderError)
      (h : Holding) → IsLeftWithoutHelper p s block c r
      → LeadsTo p may (render_call occurrence block c) (moment_at s h) (left_in_call occurrence block c v old) r (moment_at s h)
  leads-without may occurrence v old (Ok x) h is = λ k r last d.
      subst (λ (z : Next). RefinesSteps p (left_in_call occurrence block c v old z k) may (moment_at s h) r last) is.0 d
  leads-without may occurrence v old (Err e) h is =
      refines_prog-fails p may (render_call occurrence block c) e (λ other. is other occurrence)

  pub without-section : (r : Result Next BoxedError) → IsLeftWithoutHelper p s block c (answer_of r) → IfOk r (IsSectionIfLeft p s block c)
  without-section (Ok x) is = subst (λ (z : Next). IsSectionIfLeft p s block c z) (sym is.0) (is.1, is.2)
  without-section (Err e) is = tt

  pub without-next : (d : Data) (r : Result Next BoxedError) → IsLeftWithoutHelper p s block c (answer_of r) → IfOk r (IsNextIfCalled d)
  without-next d (Ok x) is = subst (λ (z : Next). IsNextIfCalled d z) (sym is.0) tt
  without-next d (Err e) is = tt

-- ---- all calls

ok-answer : (d : Data) (r : Result Next BoxedError) → IfOk r (IsNextOf d) → IfOk (answer_of r) (IsNextOf d)
ok-answer d (Ok x) is = is
ok-answer d (Err e) is = tt

-- an error that `?` propagates
pub leads-propagated : (p : Setting) (may : Error → Type 0) (m : Prog (Unit {0})) (left : Next → Prog (Unit {0})) (before after : Moment)
    (r : Result Next BoxedError) (e : BoxedError) → IsErrAnd r (λ d. d ≡ e) → LeadsTo p may m before left (Err (error_of e)) after
    → LeadsTo p may m before left (answer_of r) after
leads-propagated p may m left before after (Ok x) e is leads = absurd is
leads-propagated p may m left before after (Err d) e is leads =
    subst (λ (z : BoxedError). RefinesProg p m may before (Err (error_of z)) after) (sym is) leads

-- a call by a name that has a target
pub in_call-settles : {P O T : Type 0} (parts : P → Parts) (w : ModeView O) (x : declared.Environment P)
    (run : Both (MutBor Run) (MutBor Run)) (sink : Both (MutBor (Sink O T)) (MutBor (Sink O T))) (captured : CapturedIn (within x))
    (occurrence : Occurrence) (block : Bool) (c : Call) (name : Text) (target : Target) (d : Data) (r : Result Next BoxedError)
    → IfOk r (IsNextOf d) → HasName (setting_in parts x) (state_with captured run.entry.now) (call_name c) (gives name)
    → helper_for (setting_in parts x).parts (state_with captured run.entry.now) block name ≡ Some target
    → LeadsInCall parts w x run sink captured occurrence block c name target r
    → (v : CallView) × LeadsWith parts w x run sink r captured (render_call occurrence block c)
    (left_in_call occurrence block c v (line_of run.entry.now.line))
in_call-settles parts w x run sink captured occurrence block c name target d r given named is (is_viewed v viewed leads) = (
  v,
  leads-called (setting_in parts x) w.may_give occurrence block c name target v d (answer_of r) (state_with captured run.entry.now)
      (held_in w sink.entry.now) (moment captured run.exit.now (held_in w sink.exit.now)) named is viewed (ok-answer d r given) leads,
)
in_call-settles parts w x run sink captured occurrence block c name target d _ given named is (is_not_viewed {e = e} same failing) = (
  name_alone name,
  subst (λ (z : Holding). RefinesProg (setting_in parts x) (render_call occurrence block c) w.may_give
      (moment_at (state_with captured run.entry.now) (held_in w sink.entry.now)) (Err (error_of e)) (moment captured run.exit.now z)) (sym same)
      (leads-unviewed (setting_in parts x) w.may_give occurrence block c name
      (left_in_call occurrence block c (name_alone name) (line_of run.entry.now.line)) (error_of e) named failing),
)

-- the text that a call calls, by what the code has of its name
pub named-as : (p : Setting) (s : State) (h : HelperTemplate) (a : Answer Text) → HasName p s (param_view (out-HelperTemplate h).name) a
    → HasName p s (call_name (call_view h)) a
named-as p s h a has = rw (call_name-view h) has
