use Rattle.std.proofs.Common.{Option, Some, option_map, ap, ◌∙◌}
use Rattle.handlebars_scope.specs.Resolve.{or_else}
use Rattle.handlebars_helpers.specs.Callee.{Target, calls_registered}
use Rattle.handlebars_semantics.specs.State.{hook, registered_target}
use Rattle.handlebars_values.proofs.target.helper_for.Goals as goal

pub returns-in-Some : goal.returns-in-Some
returns-in-Some g c = λ fs. ap (λ (o : Option Target). or_else o (registered_target (g.P.Registered.parts c.args.parts.now) (hook c.args.block)))
    (c.in-Some.ensures c.args.block fs)

pub returns-in-Some-helper : goal.returns-in-Some-helper
returns-in-Some-helper g c = λ fs. ap (λ t. Some t) (c.hooked.ensures c.args.block c.args.name.now)
    ∙ ap (option_map (λ k. calls_registered k)) (rw c.hook.ensures at c.in-Some-helper.ensures)
    ∙ ap (λ (o : Option Target). or_else o (registered_target (g.P.Registered.parts c.args.parts.now) (hook c.args.block)))
    (c.in-None.ensures c.args.block fs)

pub returns-in-None-helper : goal.returns-in-None-helper
returns-in-None-helper g c = λ fs. ap (option_map (λ k. calls_registered k)) (rw c.hook.ensures at c.in-None-helper.ensures)
    ∙ ap (λ (o : Option Target). or_else o (registered_target (g.P.Registered.parts c.args.parts.now) (hook c.args.block)))
    (c.in-None.ensures c.args.block fs)
