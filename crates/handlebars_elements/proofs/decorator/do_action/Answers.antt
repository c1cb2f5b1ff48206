use Rattle.std.proofs.Common.{refl, string_bytes, sym}
use Rattle.handlebars_helpers.specs.UserView.{local_of}
use Rattle.handlebars_scope.specs.Contexts.{data_of}
use Rattle.handlebars_semantics.specs.State.{with_data, with_local, without_local}
use Rattle.handlebars_values.specs.View.{setting_in}
use Rattle.handlebars_elements.proofs.RunChanges.{state-changed, unchanged-by}
use Rattle.handlebars_elements.proofs.Silent.{does-change}
use Rattle.handlebars_elements.proofs.decorator.do_action.Goals as goal

pub returns-in-SetContext-clause-does : goal.returns-in-SetContext-clause-does
returns-in-SetContext-clause-does g c = λ captured. rw c.in-SetContext.is
    (does-change (setting_in g.P.Registered.parts c.args.environment.now) (with_data (data_of c.in-SetContext.context)) refl)

pub returns-in_ok-bind_helper-in-BindHelper-clause-does : goal.returns-in_ok-bind_helper-in-BindHelper-clause-does
returns-in_ok-bind_helper-in-BindHelper-clause-does g c = λ captured. rw c.in-BindHelper.is
    (does-change (setting_in g.P.Registered.parts c.args.environment.now) (with_local (string_bytes c.in-BindHelper.local)
    (local_of (record { registered = c.in-BindHelper.registered; constants = c.in-BindHelper.constants })))
    (state-changed captured c.bind_helper.new.self c.args.run.now (with_local (string_bytes c.in-BindHelper.local)
    (local_of (record { registered = c.in-BindHelper.registered; constants = c.in-BindHelper.constants })))
    c.bind_helper.ensures.partials c.in_ok-bind_helper-in-BindHelper.ensures.ok))

pub returns-in_ok-bind_helper-in-BindHelper-clause-unchanged : goal.returns-in_ok-bind_helper-in-BindHelper-clause-unchanged
returns-in_ok-bind_helper-in-BindHelper-clause-unchanged g c =
    unchanged-by c.bind_helper.new.self c.args.run.now (with_local (string_bytes c.in-BindHelper.local)
    (local_of (record { registered = c.in-BindHelper.registered; constants = c.in-BindHelper.constants })))
    (λ s. refl) (λ s. refl) c.in_ok-bind_helper-in-BindHelper.ensures.ok

pub returns-in_err-bind_helper-in-BindHelper-clause-unchanged : goal.returns-in_err-bind_helper-in-BindHelper-clause-unchanged
returns-in_err-bind_helper-in-BindHelper-clause-unchanged g c =
    unchanged-by c.bind_helper.new.self c.args.run.now (λ s. s) (λ s. refl) (λ s. refl) c.in_err-bind_helper-in-BindHelper.ensures.err

pub returns-in-UnbindHelper-clause-does : goal.returns-in-UnbindHelper-clause-does
returns-in-UnbindHelper-clause-does g c = λ captured. rw (c.in-UnbindHelper.is, sym c.as_str.ensures.value)
    (does-change (setting_in g.P.Registered.parts c.args.environment.now) (without_local c.as_str.result.now)
    (state-changed captured c.unbind_helper.new.self c.args.run.now (without_local c.as_str.result.now)
    c.unbind_helper.ensures.partials c.unbind_helper.ensures.run))

pub returns-in-UnbindHelper-clause-unchanged : goal.returns-in-UnbindHelper-clause-unchanged
returns-in-UnbindHelper-clause-unchanged g c =
    unchanged-by c.unbind_helper.new.self c.args.run.now (without_local c.as_str.result.now) (λ s. refl) (λ s. refl) c.unbind_helper.ensures.run

pub returns-in-SetLocalPartial-clause-does : goal.returns-in-SetLocalPartial-clause-does
returns-in-SetLocalPartial-clause-does g c = λ captured. rw (c.in-SetLocalPartial.is, sym c.as_str-in-SetLocalPartial.ensures.value)
    (c.set_partial.ensures.does captured)
