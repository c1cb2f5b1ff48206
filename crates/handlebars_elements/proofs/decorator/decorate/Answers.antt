use Rattle.std.proofs.Common.{ap}
use Rattle.handlebars_base.specs.Reasons.{decorator_not_found}
use Rattle.handlebars_base.specs.RenderRefusals.{plain_refusal}
use Rattle.handlebars_helpers.specs.Decoration.{kind_inline, kind_user}
use Rattle.handlebars_helpers.specs.DecoratorsView.{tag_view}
use Rattle.handlebars_semantics.specs.Questions.{decorator_of, decorator_or_refusal}
use Rattle.handlebars_expand.specs.Boxed.{answer_of, error_of}
use Rattle.handlebars_elements.specs.Silent.{decorate_by}
use Rattle.handlebars_values.specs.View.{setting_in, state_with}
use Rattle.handlebars_elements.proofs.Silent.{does-asked, does-failed_as}
use Rattle.handlebars_elements.proofs.decorator.decorate.Goals as goal

pub returns-in-Some-Inline-clause-does : goal.returns-in-Some-Inline-clause-does
returns-in-Some-Inline-clause-does g c = λ captured.
    let v = tag_view c.args.tag.now in
    does-asked (setting_in g.P.Registered.parts c.args.environment.now) (decorator_of v.call.name) kind_inline (λ kind. decorate_by kind v) (state_with captured c.args.run.now) (state_with captured c.decorate_inline.new.run) (answer_of c.decorate_inline.result)
    (ap (decorator_or_refusal v.call.name) (rw c.name.ensures at (rw c.in-Some-Inline.field-0-is at c.in-Some-Inline.ensures)))
    (c.decorate_inline.ensures.does captured)

pub returns-in-Some-User-clause-does : goal.returns-in-Some-User-clause-does
returns-in-Some-User-clause-does g c = λ captured.
    let v = tag_view c.args.tag.now in
    does-asked (setting_in g.P.Registered.parts c.args.environment.now) (decorator_of v.call.name) (kind_user v.call.name) (λ kind. decorate_by kind v) (state_with captured c.args.run.now) (state_with captured c.decorate_by_user.new.run) (answer_of c.decorate_by_user.result)
    (ap (decorator_or_refusal v.call.name) (rw c.name.ensures at (rw c.in-Some-User.field-0-is at c.in-Some-User.ensures)))
    (c.decorate_by_user.ensures.does captured)

pub returns-in-None-clause-does : goal.returns-in-None-clause-does
returns-in-None-clause-does g c = λ captured.
    let v = tag_view c.args.tag.now in
    does-failed_as (setting_in g.P.Registered.parts c.args.environment.now) (decorator_of v.call.name) (λ kind. decorate_by kind v)
    (plain_refusal (decorator_not_found v.call.name)) (error_of c.decorator_not_found.result)
    (rw c.name-in-None.ensures at c.decorator_not_found.ensures)
    (ap (decorator_or_refusal v.call.name) (rw c.name.ensures at c.in-None.ensures))
