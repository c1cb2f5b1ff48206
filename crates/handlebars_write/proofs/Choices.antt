-- What a program leaves to another one, and what a helper chooses.
use Rattle.std.proofs.Common.{◌≡◌, ◌≢◌, Err, List, subst}
use Rattle.std.specs.declared.io.Error.{Error}
use Rattle.handlebars_base.specs.Answers.{gives, fails}
use Rattle.handlebars_base.specs.Reasons.{out_of_memory}
use Rattle.handlebars_base.specs.RenderRefusals.{reason_in, refusal_of}
use Rattle.handlebars_base.specs.declared.error.render_error.RenderError.{RenderError}
use Rattle.handlebars_scope.specs.Scopes.{Frame, Base}
use Rattle.handlebars_helpers.specs.CallView.{HelperView}
use Rattle.handlebars_helpers.specs.Callee.{Target}
use Rattle.handlebars_helpers.specs.Choice.{Choice}
use Rattle.handlebars_helpers.specs.Iterations.{with_frame}
use Rattle.handlebars_semantics.specs.Execute.{execute, in_scope_frame, render_body, render_with}
use Rattle.handlebars_semantics.specs.Means.{render_chosen}
use Rattle.handlebars_semantics.specs.Occurrences.{Occurrence}
use Rattle.handlebars_semantics.specs.Pieces.{Piece}
use Rattle.handlebars_semantics.specs.Questions.{HasChoice, choice_of}
use Rattle.handlebars_semantics.specs.Runs.{Outcome, Runs}
use Rattle.handlebars_semantics.specs.State.{Setting, State, nearest_variables}
use Rattle.handlebars_semantics.specs.Steps.{Prog, Steps, ask, ◌>>=◌}
use Rattle.handlebars_expand.specs.View.{ValueFails}
use Rattle.handlebars_write.specs.View.{Answered, RefinesProg, RefinesSteps, Holding, Moment, moment_at, is_over}
use Rattle.handlebars_expand.proofs.Asked.{gives-ask, fails-ask}
use Rattle.handlebars_write.proofs.Refinement.{refines-get, refines-no_value, refines-value, refines_prog-no_value, refines_prog-value}

-- From this state the first program does what the second does.
abbrev pub Leaves : Setting → Prog (Unit {0}) → State → Prog (Unit {0}) → Type 0
Leaves p m s n = (k : Unit {0} → Steps) (ps : List Piece) (o : Outcome) → Runs p (n k) s ps o → Runs p (m k) s ps o

module _ (p : Setting) (may : Error → Type 0) where
  -- ---- what is left

  pub refines_prog-fails : (m : Prog (Unit {0})) {s next : State} {h : Holding} (e : RenderError)
      → (reason_in e ≢ out_of_memory → ValueFails p m s (refusal_of e))
      → RefinesProg p m may (moment_at s h) (Err e) (moment_at next h)
  refines_prog-fails m e is = is_over (λ k. refines-no_value p may m k e is)

  -- ---- what a helper chooses

  -- whatever comes next
  pub refines-choice : (occurrence : Occurrence) (target : Target) (w : HelperView) (x : Choice) (next : Unit {0} → Steps)
      {s : State} {h : Holding} {r : Answered} {last : Moment} → HasChoice p s target w (gives x)
      → RefinesSteps p (execute occurrence w x next) may (moment_at s h) r last
      → RefinesSteps p (render_chosen occurrence target w next) may (moment_at s h) r last
  unfolding ◌>>=◌
  refines-choice occurrence target w x next has c =
      refines-value p may (ask (choice_of target w)) (λ a. execute occurrence w a next) (gives-ask p (choice_of target w) x has) c

  pub refines_prog-choice : (occurrence : Occurrence) (target : Target) (w : HelperView) (x : Choice) {s : State} {h : Holding}
      {after : Moment} {r : Answered} → HasChoice p s target w (gives x)
      → RefinesProg p (execute occurrence w x) may (moment_at s h) r after
      → RefinesProg p (render_chosen occurrence target w) may (moment_at s h) r after
  refines_prog-choice occurrence target w x has a =
      refines_prog-value p may (ask (choice_of target w)) (execute occurrence w) (gives-ask p (choice_of target w) x has) a

  pub refines_prog-no_choice : (occurrence : Occurrence) (target : Target) (w : HelperView) {s next : State} {h : Holding} (e : RenderError)
      → (reason_in e ≢ out_of_memory → HasChoice p s target w (fails (refusal_of e)))
      → RefinesProg p (render_chosen occurrence target w) may (moment_at s h) (Err e) (moment_at next h)
  refines_prog-no_choice occurrence target w e is =
      refines_prog-no_value p may (ask (choice_of target w)) (execute occurrence w) e
      (λ other. fails-ask p (choice_of target w) (is other))

  -- the body in the scope frame of `with`
  pub refines-with : (occurrence : Occurrence) (h : HelperView) (base : Base) (f : Frame) (next : Unit {0} → Steps) {s : State}
      {held : Holding} {r : Answered} {last : Moment} → f ≡ with_frame base h.binding (nearest_variables s.blocks)
      → RefinesSteps p (in_scope_frame f (render_body occurrence 0 h) next) may (moment_at s held) r last
      → RefinesSteps p (render_with occurrence h base next) may (moment_at s held) r last
  unfolding ◌>>=◌
  refines-with occurrence h base f next {s = s} {held = held} {r = r} {last = last} is d =
      refines-get p may (subst (λ (z : Frame). RefinesSteps p (in_scope_frame z (render_body occurrence 0 h) next) may (moment_at s held) r last) is d)
