-- What is left of a call is executed, in its bracket or without one.
use Rattle.std.proofs.Common.{◌≡◌, Bool, true, Ok, Err, sym, subst}
use Rattle.std.specs.declared.io.Error.{Error}
use Rattle.handlebars_template.specs.Tree.{Call}
use Rattle.handlebars_scope.specs.LineState.{LineState}
use Rattle.handlebars_helpers.specs.CallView.{CallView}
use Rattle.handlebars_semantics.specs.Execute.{view_with_bodies}
use Rattle.handlebars_semantics.specs.Means.{line_out, render_call}
use Rattle.handlebars_semantics.specs.Occurrences.{Occurrence}
use Rattle.handlebars_semantics.specs.State.{Setting, State}
use Rattle.handlebars_semantics.specs.Steps.{Prog, become, state, ◌>>=◌, ◌>>◌}
use Rattle.handlebars_write.specs.View.{Answered, Holding, Moment, RefinesProg, RefinesSteps, goes_on, is_over, moment_at}
use Rattle.handlebars_write.proofs.Refinement.{refines-get, refines-elsewhere, refines-set}
use Rattle.handlebars_elements.specs.Judgement.{LeadsTo}
use Rattle.handlebars_elements.specs.Left.{left_in_call, left_of, then_out}
use Rattle.handlebars_elements.specs.declared.next.Next.{Next}
use Rattle.handlebars_elements.specs.declared.next.Next.TheVariants.{Section}
use Rattle.handlebars_elements.proofs.Settling.{left-as-called}

module _ (p : Setting) (may : Error → Type 0) where
  -- what is left is executed
  pub refines_prog-leads : {T : Type 0} (m : Prog (Unit {0})) (left : T → Prog (Unit {0})) (x : T) {before mid after : Moment}
      {r : Answered} → LeadsTo p may m before left (Ok x) mid → RefinesProg p (left x) may mid r after → RefinesProg p m may before r after
  refines_prog-leads m left x leads (goes_on c) = goes_on (λ k r last d. leads k r last (c k r last d))
  refines_prog-leads m left x leads (is_over {e = e} {after = after} c) = is_over (λ k. leads k (Err e) after (c k))

  -- it is executed in the bracket of a call, which is then left
  pub refines_prog-then_out : (old : LineState) (m : Prog (Unit {0})) {before : Moment} {next last : State} {new : Holding}
      {r : Answered} → last ≡ record next { line = line_out old next.line } → RefinesProg p m may before r (moment_at next new)
      → RefinesProg p (then_out old m) may before r (moment_at last new)
  unfolding ◌>>=◌ ◌>>◌
  refines_prog-then_out old m {new = new} ends (goes_on c) = goes_on (λ k r last d. c (λ u. (state >>= (λ z. become (record z { line = line_out old z.line }))) k)
      r last (refines-get p may (refines-set p may (subst (λ (z : State). RefinesSteps p (k tt) may (moment_at z new) r last) ends d))))
  refines_prog-then_out old m ends (is_over c) =
      is_over (λ k. refines-elsewhere p may (c (λ u. (state >>= (λ z. become (record z { line = line_out old z.line }))) k)))

  -- what is left of a call in its bracket is executed, if it is no section
  pub refines_prog-called : (occurrence : Occurrence) (block : Bool) (c : Call) (v : CallView) (old : LineState) (x : Next)
      {before mid : Moment} {next last : State} {new : Holding} {r : Answered}
      → (x ≡ Section → ⊥) → LeadsTo p may (render_call occurrence block c) before (left_in_call occurrence block c v old) (Ok x) mid
      → last ≡ record next { line = line_out old next.line }
      → RefinesProg p (left_of occurrence (view_with_bodies block c v) x) may mid r (moment_at next new)
      → RefinesProg p (render_call occurrence block c) may before r (moment_at last new)
  refines_prog-called occurrence block c v old x {mid = mid} {last = last} {new = new} {r = r} other leads ends a =
      refines_prog-leads (render_call occurrence block c) (left_in_call occurrence block c v old) x leads
      (subst (λ (z : Prog (Unit {0})). RefinesProg p z may mid r (moment_at last new)) (sym (left-as-called occurrence block c v old x other))
      (refines_prog-then_out old (left_of occurrence (view_with_bodies block c v) x) ends a))

  -- a block that is a section is rendered as one
  pub section_rendered : (occurrence : Occurrence) (block : Bool) (c : Call) {before after : Moment} {r : Answered} → block ≡ true
      → RefinesProg p (render_call occurrence true c) may before r after → RefinesProg p (render_call occurrence block c) may before r after
  section_rendered occurrence block c {before = before} {after = after} {r = r} is a =
      subst (λ (b : Bool). RefinesProg p (render_call occurrence b c) may before r after) (sym is) a
