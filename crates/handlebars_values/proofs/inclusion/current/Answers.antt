use Rattle.handlebars_base.specs.Scoped.{data_in}
use Rattle.handlebars_values.specs.ParamView.{value_found}
use Rattle.handlebars_values.specs.View.{called_view, setting_in, state_with}
use Rattle.handlebars_values.proofs.PartialBases.{has-current, has-no-current}
use Rattle.handlebars_values.proofs.inclusion.current.Goals as goal

pub returns-in_err-value : goal.returns-in_err-value
returns-in_err-value g c = λ captured none.
    has-no-current (setting_in g.P.Registered.parts c.args.environment.now) (state_with captured c.args.run.now) (called_view c.args.tag.now) none
    c.from_residual.result c.in_err-value.field-0.0 c.from_residual.ensures.1 (c.in_err-value.ensures captured)

pub returns : goal.returns
returns g c = λ captured none.
    has-current (setting_in g.P.Registered.parts c.args.environment.now) (state_with captured c.args.run.now) (called_view c.args.tag.now) none
    (data_in (value_found c.in_ok-value.value)) c.in_ok-merged_value.field-0 (c.in_ok-value.ensures captured) c.in_ok-merged_value.ensures
