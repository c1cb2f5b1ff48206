use Rattle.std.proofs.Common.{sym, ◌∙◌}
use Rattle.std.specs.Cow.{cow_str_bytes}
use Rattle.handlebars_template.specs.TreeView.{call_view}
use Rattle.handlebars_expand.specs.Boxed.{error_of}
use Rattle.handlebars_values.specs.View.{setting_in, state_with}
use Rattle.handlebars_elements.proofs.Settling.{left-failed}
use Rattle.handlebars_elements.proofs.call.settle_without_helper.Goals as goal

pub returns : goal.returns
returns g c = λ captured named none.
    left-failed (setting_in g.P.Registered.parts c.args.environment.now) (state_with captured c.args.run.now) c.args.block
    (call_view c.args.helper.now) (cow_str_bytes c.args.name) named none (error_of c.helper_not_found-error.result)
    (error_of c.error_after_arguments.result) (sym c.may_be_section.ensures ∙ c.if-may_be_section.false)
    (rw c.as_str.ensures.value at c.helper_not_found-error.ensures) (c.error_after_arguments.ensures captured)
