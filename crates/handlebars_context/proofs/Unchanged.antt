-- What is unchanged once a rendering has put back the scope frames and the run that it took.
use Rattle.std.proofs.Common.{◌≡◌, List, [], Result, Ok, Err, OnOk, OnErr, refl, ap}
use Rattle.std.specs.declared.alloc.AllocError.{AllocError}
use Rattle.handlebars_base.specs.Bytes.{Text}
use Rattle.handlebars_helpers.specs.Callee.{LocalHelper}
use Rattle.handlebars_scope.specs.Scopes.{Frame}
use Rattle.handlebars_semantics.specs.State.{State, with_local, without_local}
use Rattle.handlebars_values.specs.RunView.{run_state}
use Rattle.handlebars_values.specs.declared.run.Run.{Run}
use Rattle.handlebars_context.specs.View.{HasSameModes, IsUnchanged}
use Rattle.handlebars_context.specs.declared.context.RenderContext.{RenderContext}

-- ---- the run alone is changed

pub unchanged-run : (rc : RenderContext) (r : Run) → HasSameModes rc.run r → IsUnchanged rc (record rc { run = r })
unchanged-run rc r same = record { root = refl; blocks = refl; recursive = same.recursive; escapes = same.escapes; failed = refl }

module _ (old new : Run) (name : Text) where
  -- A local helper was bound, or memory ran out.
  pub modes-bound : (l : LocalHelper) (r : Result (Unit {0}) AllocError)
      → ((fs : List Frame) → OnOk r (run_state fs new ≡ with_local name l (run_state fs old)))
      → ((fs : List Frame) → OnErr r (run_state fs new ≡ run_state fs old)) → HasSameModes old new
  modes-bound l (Ok u) ok err = record {
    recursive = ap (λ (t : State). t.recursive) (ok []);
    escapes = ap (λ (t : State). t.escapes) (ok []);
  }
  modes-bound l (Err e) ok err = record {
    recursive = ap (λ (t : State). t.recursive) (err []);
    escapes = ap (λ (t : State). t.escapes) (err []);
  }

  -- One was removed.
  pub modes-unbound : ((fs : List Frame) → run_state fs new ≡ without_local name (run_state fs old)) → HasSameModes old new
  modes-unbound run = record {
    recursive = ap (λ (t : State). t.recursive) (run []);
    escapes = ap (λ (t : State). t.escapes) (run []);
  }
