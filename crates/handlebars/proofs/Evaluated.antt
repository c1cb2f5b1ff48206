-- What evaluating returns after the context is marked as failed.
use Rattle.std.proofs.Common.{◌≡◌, Ok, Err, sym, subst}
use Rattle.handlebars_base.specs.Reasons.{Refusal}
use Rattle.handlebars_base.specs.declared.error.render_error.RenderError.{RenderError}
use Rattle.handlebars_semantics.specs.State.{Setting, State}
use Rattle.handlebars_semantics.specs.Steps.{Steps}
use Rattle.handlebars_expand.specs.Boxed.{IsPropagated}
use Rattle.handlebars_elements.specs.Silent.{Evals}
use Rattle.handlebars_write.specs.View.{Answered}
use Rattle.handlebars_elements.proofs.Silent.{evals-propagated}

module _ (p q : Setting) (k : Steps) (seen : Refusal → Refusal) (s mid last : State) where
  -- the error is passed on
  pub evals-failed : (e d : RenderError) (a : Answered) → p ≡ q → IsPropagated e d → a ≡ Err d
      → Evals p k seen s (Err e) mid → Evals q k seen s a last
  evals-failed e d (Ok u) over propagated same c = cc
  evals-failed e d (Err f) over propagated same c =
      subst (λ (z : Setting). Evals z k seen s (Err f) last) over
      (subst (λ (z : Answered). Evals p k seen s z last) (sym same)
      (evals-propagated p k seen s mid last e d propagated c))
