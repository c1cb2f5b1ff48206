use Rattle.std.proofs.Common.{false, [], ap, sym, ◌∙◌}
use Rattle.handlebars_base.specs.Reasons.{helper_not_found}
use Rattle.handlebars_base.specs.RenderRefusals.{plain_refusal}
use Rattle.handlebars_semantics.specs.State.{helper_for}
use Rattle.handlebars_expand.specs.Boxed.{answer_of, error_of}
use Rattle.handlebars_expand.specs.Targets.{target_in}
use Rattle.handlebars_values.specs.View.{setting_in, state_with}
use Rattle.handlebars_values.proofs.Dispatching.{value-of-none, value-of-target}
use Rattle.handlebars_values.proofs.dispatch.dispatch_in_parentheses.Goals as goal

pub returns-in-Some : goal.returns-in-Some
returns-in-Some g c = λ captured h same.
    let p = setting_in g.P.Registered.parts c.args.environment.now in
    let s = state_with captured c.args.run.now in
    value-of-target p s (target_in false c.args.name.now c.in-Some.target) (helper_for p.parts s false c.args.name.now) h
    (answer_of c.dispatch.result) (c.in-Some.ensures []) (c.dispatch.ensures h same)

pub returns-in-None : goal.returns-in-None
returns-in-None g c = λ captured h same.
    let p = setting_in g.P.Registered.parts c.args.environment.now in
    let s = state_with captured c.args.run.now in
    value-of-none p s (helper_for p.parts s false c.args.name.now) h (error_of c.helper_not_found.result) (c.in-None.ensures [])
    (λ other. c.helper_not_found.ensures other ∙ ap (λ t. plain_refusal (helper_not_found t)) (sym same))
