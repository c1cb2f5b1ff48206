use Rattle.std.proofs.Common.{ap, inl, inr}
use Rattle.std.proofs.lemmas.Bool.{cases_Bool}
use Rattle.handlebars_base.specs.Outputs.{Held}
use Rattle.handlebars_context.specs.View.{has_failed}
use Rattle.handlebars.proofs.Texts.{gives_string, string_fails}
use Rattle.handlebars.proofs.render.Renderable.renders.Goals as goal

pub returns-in-Ok-clause-ok : goal.returns-in-Ok-clause-ok
returns-in-Ok-clause-ok g c = elim (cases_Bool (has_failed c.args.rc.now)) [
  | inl failed ↦ absurd (c.in-Ok.ensures.failed failed).0
  | inr ready ↦ (ready, rw c.into_string.ensures (gives_string _ _ _ (ap (λ (h : Held). h.text) c.new-out.ensures) (c.in-Ok.ensures.renders ready)))
]

pub returns-in-Err-clause-err : goal.returns-in-Err-clause-err
returns-in-Err-clause-err g c ready other = string_fails _ _ _ c.in-Err.e (λ cause is. is) other (c.in-Err.ensures.renders ready)
