-- What iterations and scope frames execute.
use Rattle.std.proofs.Common.{◌≡◌, ℕ, ◌+◌, List, [], ◌∷◌, Option, Ok, Err, sym, subst}
use Rattle.std.specs.declared.io.Error.{Error}
use Rattle.handlebars_base.specs.Bytes.{Text}
use Rattle.handlebars_base.specs.declared.error.render_error.RenderError.{RenderError}
use Rattle.handlebars_semantics.specs.Occurrences.{as_iteration, body_at, Occurrence}
use Rattle.handlebars_helpers.specs.CallView.{HelperView}
use Rattle.handlebars_helpers.specs.Iterations.{Iteration, iteration_frame}
use Rattle.handlebars_semantics.specs.Execute.{render_branch, run_iteration, run_iterations}
use Rattle.handlebars_semantics.specs.State.{Setting, State, pop_frame, with_nearest}
use Rattle.handlebars_semantics.specs.Steps.{Steps, ◌>>◌}
use Rattle.handlebars_write.specs.View.{moment_at, Answered, RefinesProg, RefinesSteps, Holding, Moment, goes_on, is_over}
use Rattle.handlebars_write.proofs.Refinement.{refines_prog-changed}

module _ (p : Setting) (may : Error → Type 0) where
  -- ---- the loop over iterations

  -- What is executed from here by the iterations that are left is executed from the start by all of them.
  abbrev pub IterationsLeft : Occurrence → ℕ → HelperView → Option (List Text) → List Iteration → List Iteration → Moment → Moment → Type 0
  IterationsLeft occurrence i h path all rest first now = (next : Unit {0} → Steps) (r : Answered) (last : Moment)
      → RefinesSteps p (run_iterations occurrence i h path rest next) may now r last
      → RefinesSteps p (run_iterations occurrence 0 h path all next) may first r last

  pub iterations-go : (occurrence : Occurrence) (i : ℕ) (h : HelperView) (path : Option (List Text)) (all : List Iteration)
      {rest more : List Iteration} {t : Iteration} {first now after : Moment} {u : Unit {0}}
      → rest ≡ t ∷ more → IterationsLeft occurrence i h path all rest first now
      → RefinesProg p (run_iteration occurrence i h path t) may now (Ok u) after → IterationsLeft occurrence (i + 1) h path all more first after
  unfolding ◌>>◌
  iterations-go occurrence i h path all {more = more} {now = now} is pop_frame (goes_on iteration) = λ next r last c. pop_frame next r last
      (subst (λ (ts : List Iteration). RefinesSteps p (run_iterations occurrence i h path ts next) may now r last) (sym is)
      (iteration (λ u. run_iterations occurrence (i + 1) h path more next) r last c))

  pub iterations-over : (occurrence : Occurrence) (i : ℕ) (h : HelperView) (path : Option (List Text)) (all : List Iteration)
      {rest more : List Iteration} {t : Iteration} {first now after : Moment} {e : RenderError}
      → rest ≡ t ∷ more → IterationsLeft occurrence i h path all rest first now
      → RefinesProg p (run_iteration occurrence i h path t) may now (Err e) after
      → RefinesProg p (run_iterations occurrence 0 h path all) may first (Err e) after
  unfolding ◌>>◌
  iterations-over occurrence i h path all {more = more} {now = now} {after = after} {e = e} is pop_frame (is_over iteration) =
      is_over (λ next. pop_frame next (Err e) after
      (subst (λ (ts : List Iteration). RefinesSteps p (run_iterations occurrence i h path ts next) may now (Err e) after) (sym is)
      (iteration (λ u. run_iterations occurrence (i + 1) h path more next))))

  pub iterations-end : (occurrence : Occurrence) (i : ℕ) (h : HelperView) (path : Option (List Text)) (all : List Iteration)
      {rest : List Iteration} {first now : Moment} {u : Unit {0}}
      → rest ≡ [] → IterationsLeft occurrence i h path all rest first now
      → RefinesProg p (run_iterations occurrence 0 h path all) may first (Ok u) now
  iterations-end occurrence i h path all {now = now} is pop_frame = goes_on (λ next r last c. pop_frame next r last
      (subst (λ (ts : List Iteration). RefinesSteps p (run_iterations occurrence i h path ts next) may now r last) (sym is) c))

  -- ---- scope frames

  -- an iteration: the nearest frame is set up, and then the body is rendered
  pub refines_prog-iteration : (occurrence : Occurrence) (i : ℕ) (h : HelperView) (path : Option (List Text)) (t : Iteration)
      {s mid : State} {held : Holding} {after : Moment} {r : Answered}
      → mid ≡ with_nearest (iteration_frame path h.binding t) s → RefinesProg p (render_branch (body_at occurrence (as_iteration i t.index)) h.body) may (moment_at mid held) r after
      → RefinesProg p (run_iteration occurrence i h path t) may (moment_at s held) r after
  refines_prog-iteration occurrence i h path t is c =
      refines_prog-changed p may (with_nearest (iteration_frame path h.binding t)) (render_branch (body_at occurrence (as_iteration i t.index)) h.body) is c
