-- What a rendering returns after the context is marked as failed.
use Rattle.std.proofs.Common.{◌≡◌, true, Ok, Err, sym, subst}
use Rattle.std.specs.Prelude.{OnErr}
use Rattle.std.specs.declared.io.Error.{Error}
use Rattle.handlebars_base.specs.declared.error.render_error.RenderError.{RenderError}
use Rattle.handlebars_semantics.specs.State.{Setting}
use Rattle.handlebars_semantics.specs.Steps.{Steps}
use Rattle.handlebars_expand.specs.Boxed.{IsPropagated}
use Rattle.handlebars_context.specs.View.{state_of}
use Rattle.handlebars_write.specs.View.{Answered, RefinesSteps, Holding, moment_at}
use Rattle.handlebars_write.proofs.Refinement.{refines-propagated}
use Rattle.handlebars_context.specs.declared.context.RenderContext.{RenderContext}

-- the error is passed on, and then the mark is set
pub refines-failed : (p : Setting) (k : Steps) (may : Error → Type 0) (first mid last : RenderContext)
    (h new : Holding) (e d : RenderError) (s : Answered) → IsPropagated e d → s ≡ Err d
    → OnErr s (last ≡ record mid { failed = true })
    → RefinesSteps p k may (moment_at (state_of first) h) (Err e) (moment_at (state_of mid) new)
    → RefinesSteps p k may (moment_at (state_of first) h) s (moment_at (state_of last) new)
refines-failed p k may first mid last h new e d (Ok u) propagated same err c = cc
refines-failed p k may first mid last h new e d (Err f) propagated same err c =
    subst (λ (z : RenderContext). RefinesSteps p k may (moment_at (state_of first) h) (Err f) (moment_at (state_of z) new)) (sym err)
    (subst (λ (z : Answered). RefinesSteps p k may (moment_at (state_of first) h) z (moment_at (state_of mid) new)) (sym same)
    (refines-propagated p may e d propagated c))
