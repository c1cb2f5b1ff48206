use Rattle.std.proofs.Common.{[], ◌∷◌, ap, sym, ◌∙◌}
use Rattle.handlebars_base.specs.Answers.{gives}
use Rattle.handlebars_base.specs.PathAndData.{path_and_data}
use Rattle.handlebars_base.specs.RenderRefusals.{refusal_of}
use Rattle.handlebars_helpers.specs.Decoration.{by_text, inline_actions, sets_partial}
use Rattle.handlebars_helpers.specs.DecoratorsView.{tag_view}
use Rattle.handlebars_helpers.proofs.Decorations.{answers-propagated, inline-fails}
use Rattle.handlebars_helpers.proofs.decorators.inline.Goals as goal

pub returns-in_err-body_of : goal.returns-in_err-body_of
returns-in_err-body_of c =
    let v = tag_view c.args.decorator.now in
    let e = c.in_err-body_of.field-0.0 in
    answers-propagated (λ name. sets_partial name.now ∷ []) (inline_actions v) c.from_residual-in_err-body_of.result e
    c.from_residual-in_err-body_of.ensures.1
    (λ other. inline-fails v (path_and_data c.in_ok-there.field-0.now) c.in_ok-name.name.now (refusal_of e)
    (sym c.param.ensures ∙ c.in_ok-there.ensures)
    (ap (λ d. by_text d (λ t. gives t)) (sym c.value.ensures) ∙ c.in_ok-name.ensures)
    (c.in_err-body_of.ensures other))
