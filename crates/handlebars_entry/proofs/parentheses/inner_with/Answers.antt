use Rattle.handlebars_base.specs.Answers.{fails, gives}
use Rattle.handlebars_base.specs.RenderRefusals.{refusal_of}
use Rattle.handlebars_base.specs.Scoped.{found_of}
use Rattle.handlebars_template.specs.TreeView.{subexpression_view}
use Rattle.handlebars_semantics.specs.Values.{HasInnerValue}
use Rattle.handlebars_expand.specs.Boxed.{error_of}
use Rattle.handlebars_values.specs.ParamView.{value_found}
use Rattle.handlebars_values.specs.View.{setting_in, state_with, within}
use Rattle.handlebars_elements.proofs.InnerValues.{inner-unwalked}
use Rattle.handlebars_entry.proofs.OutsideInclusions.{says-outermost, uncaptured}
use Rattle.handlebars_entry.proofs.parentheses.inner_with.Goals as goal

pub returns-in_ok-owned-in-Ok-clause-value : goal.returns-in_ok-owned-in-Ok-clause-value
returns-in_ok-owned-in-Ok-clause-value g c = λ blocks registered d outside inclusion.
    let x = c.environment_outside-environment.result in
    let is = c.environment_outside-environment.ensures blocks registered d outside inclusion in
    let has = c.in-Ok.ensures.value (uncaptured (within x)) in
    let found = value_found c.in-Ok.value in
    says-outermost x registered d blocks is g.P.Registered.parts
    (λ p s next. HasInnerValue p s (subexpression_view c.args.inner.now) (gives (found_of c.in_ok-owned-in-Ok.field-0)))
    c.args.run.now c.args.run.now
    (rw (c.in_ok-owned-in-Ok.ensures.value (inner-unwalked (setting_in g.P.Registered.parts x) (state_with (uncaptured (within x)) c.args.run.now)
    (subexpression_view c.args.inner.now) found has)) has)

pub returns-in-Err-clause-value : goal.returns-in-Err-clause-value
returns-in-Err-clause-value g c = λ blocks registered d outside inclusion other.
    let x = c.environment_outside-environment.result in
    let is = c.environment_outside-environment.ensures blocks registered d outside inclusion in
    says-outermost x registered d blocks is g.P.Registered.parts
    (λ p s next. HasInnerValue p s (subexpression_view c.args.inner.now) (fails (refusal_of (error_of c.in-Err.e))))
    c.args.run.now c.args.run.now (c.in-Err.ensures.value (uncaptured (within x)) other)
