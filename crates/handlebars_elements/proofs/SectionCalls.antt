-- What sections lead to.
use Rattle.std.proofs.Common.{◌≡◌, ◌≢◌, ◌&&◌, Bool, true, false, [], Option, Some, Result, Err, refl, sym, ap, ◌∙◌, subst}
use Rattle.std.specs.Prelude.{unwrap_or}
use Rattle.std.specs.declared.io.Error.{Error}
use Rattle.handlebars_base.specs.Answers.{Answer, gives, fails}
use Rattle.handlebars_base.specs.Bytes.{Text}
use Rattle.handlebars_base.specs.Path.{Reference}
use Rattle.handlebars_base.specs.Reasons.{out_of_memory}
use Rattle.handlebars_base.specs.RenderRefusals.{reason_in, refusal_of}
use Rattle.handlebars_base.specs.Scoped.{Found}
use Rattle.handlebars_base.specs.declared.error.render_error.RenderError.{RenderError}
use Rattle.handlebars_template.specs.Tree.{Call, as_name, call_args, call_marks, call_name, is_value}
use Rattle.handlebars_helpers.specs.CallView.{CallView}
use Rattle.handlebars_helpers.specs.Callee.{Target}
use Rattle.handlebars_helpers.specs.Choice.{Choice}
use Rattle.handlebars_semantics.specs.Asks.{goes_on, first_fails}
use Rattle.handlebars_semantics.specs.Execute.{execute, view_with_bodies}
use Rattle.handlebars_semantics.specs.Means.{line_in, render_call, render_helped}
use Rattle.handlebars_semantics.specs.Occurrences.{Occurrence}
use Rattle.handlebars_semantics.specs.Questions.{HasCalled, IsAnswered, called_as, view_of}
use Rattle.handlebars_semantics.specs.Sections.{HasSection, HasSectionIf, HasSectionPath, section_call}
use Rattle.handlebars_semantics.specs.State.{Setting, State, helper_for}
use Rattle.handlebars_semantics.specs.Steps.{Prog, ask, ◌>>=◌}
use Rattle.handlebars_semantics.specs.Values.{HasView, path_value}
use Rattle.handlebars_expand.specs.View.{name_alone}
use Rattle.handlebars_expand.proofs.LoneValues.{named-written, view-alone}
use Rattle.handlebars_write.specs.View.{Holding, Moment, moment_at}
use Rattle.handlebars_elements.specs.Chosen.{section_choice}
use Rattle.handlebars_elements.specs.Judgement.{LeadsTo}
use Rattle.handlebars_elements.specs.Left.{IsSection, then_out}
use Rattle.handlebars_elements.proofs.Settling.{helped-failed, leads-asked, leads-helped, leads-unanswered}

-- the view of a call that is a written name alone
abbrev pub name_view : Call → CallView
name_view c = name_alone (unwrap_or (as_name (call_name c)) [])

allowed-section : (p : Setting) (s : State) (c : Call) (v : CallView) (sections alone : Bool) (a : Answer (Target × CallView))
    → sections ≡ true → alone ≡ true → HasSection p s (call_name c) v a
    → HasSectionIf (sections && (true && alone)) p s (call_name c) v a
allowed-section p s c v true true a sections alone has = has
allowed-section p s c v false alone a sections is has = cc
allowed-section p s c v true false a sections is has = cc

module _ (p : Setting) (may : Error → Type 0) (occurrence : Occurrence) (c : Call) (s : State) (section : IsSection p s c) where
  name-same : unwrap_or (as_name (call_name c)) [] ≡ section.name
  name-same = ap (λ (o : Option Text). unwrap_or o []) section.written

  viewed-section : HasView p s (call_name c) (call_args c) (gives (name_view c))
  viewed-section = view-alone p s c (unwrap_or (as_name (call_name c)) []) section.alone
      (named-written p s (call_name c) (unwrap_or (as_name (call_name c)) [])
      (section.written ∙ ap (λ (t : Text). Some t) (sym name-same)))

  called-section : (a : Answer (Target × CallView)) → HasSection p s (call_name c) (name_view c) a
      → IsAnswered p s (called_as true c (name_view c)) a
  called-section a has =
      subst (λ (z : Option Target). HasCalled p s true c (name_view c) z a)
      (sym (ap (helper_for p.parts s true) name-same ∙ section.none))
      (allowed-section p s c (name_view c) p.parts.sections (is_value c) a section.allowed section.alone has)

  -- a section that fails before it is called
  pub section-failed : {T : Type 0} (left : T → Prog (Unit {0})) (e : RenderError) {next : State} {h : Holding}
      → (reason_in e ≢ out_of_memory → HasSection p s (call_name c) (name_view c) (fails (refusal_of e)))
      → LeadsTo p may (render_call occurrence true c) (moment_at s h) left (Err e) (moment_at next h)
  section-failed {T = T} left e {next = next} {h = h} is =
      leads-asked p may (view_of (call_name c) (call_args c)) (name_view c)
      (λ v. ask (called_as true c v) >>= (λ called. render_helped occurrence true c called.0 called.1)) left (Err e) s h
      (moment_at next h) viewed-section
      (leads-unanswered p may (called_as true c (name_view c)) (λ called. render_helped occurrence true c called.0 called.1) left e
      (λ other. called-section (fails (refusal_of e)) (is other)))

  module _ (x : Reference) (leads : HasSectionPath (call_name c) (name_view c) (gives x)) where
    -- the path of a section leads to an error
    pub section-unfound : {T : Type 0} (left : T → Prog (Unit {0})) (e : RenderError) {next : State} {h : Holding}
        → (reason_in e ≢ out_of_memory → fails (refusal_of e) ≡ path_value p s x)
        → LeadsTo p may (render_call occurrence true c) (moment_at s h) left (Err e) (moment_at next h)
    section-unfound left e is = section-failed left e (λ other. goes_on leads (first_fails (is other)))

    module _ (found : Found) (is : gives found ≡ path_value p s x) where
      abbrev called : Target × CallView
      called = section_call (call_name c) (name_view c) found

      section-called : {T : Type 0} (left : T → Prog (Unit {0})) (r : Result T RenderError) (h : Holding) (after : Moment)
          → LeadsTo p may (render_helped occurrence true c called.0 called.1) (moment_at s h) left r after
          → LeadsTo p may (render_call occurrence true c) (moment_at s h) left r after
      section-called left r h after helped =
          leads-asked p may (view_of (call_name c) (call_args c)) (name_view c)
          (λ v. ask (called_as true c v) >>= (λ z. render_helped occurrence true c z.0 z.1)) left r s h after viewed-section
          (leads-asked p may (called_as true c (name_view c)) called (λ z. render_helped occurrence true c z.0 z.1) left r s h after
          (called-section (gives called) (goes_on leads (goes_on is refl))) helped)

      -- the built-in helper that the section is fails
      pub section-unchosen : {T : Type 0} (left : T → Prog (Unit {0})) (e : RenderError) {next : State} {h : Holding}
          → (reason_in e ≢ out_of_memory → section_choice p.parts.strict c found ≡ fails (refusal_of e))
          → LeadsTo p may (render_call occurrence true c) (moment_at s h) left (Err e) (moment_at next h)
      section-unchosen left e {next = next} {h = h} failing =
          section-called left (Err e) h (moment_at next h)
          (helped-failed p may occurrence true c called.0 called.1 e (λ other. sym (failing other)))

      -- what it chooses is executed in the bracket of the call
      pub section-chosen : {T : Type 0} (y : Choice) (left : T → Prog (Unit {0})) (r : Result T RenderError) (mid : State) (h : Holding)
          (after : Moment) → mid ≡ record s { line = line_in (call_marks c).indent_before_write s.line }
          → section_choice p.parts.strict c found ≡ gives y
          → LeadsTo p may (execute occurrence (view_with_bodies true c called.1) y) (moment_at mid h) left r after
          → LeadsTo p may (render_call occurrence true c) (moment_at s h) (λ z. then_out s.line (left z)) r after
      section-chosen y left r mid h after entered chooses executed =
          section-called (λ z. then_out s.line (left z)) r h after
          (leads-helped p may occurrence true c called.0 called.1 y left r s mid h after entered (sym chooses) executed)
