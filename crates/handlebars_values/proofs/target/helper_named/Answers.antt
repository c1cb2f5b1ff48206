use Rattle.std.proofs.Common.{Some, option_map, sym, ap, ◌∙◌}
use Rattle.handlebars_helpers.specs.Callee.{calls_registered}
use Rattle.handlebars_semantics.specs.State.{registered_target}
use Rattle.handlebars_values.specs.RunView.{run_state}
use Rattle.handlebars_values.proofs.NamedTargets.{local-there, no-local}
use Rattle.handlebars_values.proofs.target.helper_named.Goals as goal

pub returns-then-has_local_helper : goal.returns-then-has_local_helper
returns-then-has_local_helper g c = λ block fs.
    local-there c.args.name.now ((run_state fs c.args.run.now).local c.args.name.now)
    (registered_target (g.P.Registered.parts c.args.parts.now) c.args.name.now)
    (sym c.if-has_local_helper.true ∙ c.has_local_helper.ensures fs)

pub returns-in-Some : goal.returns-in-Some
returns-in-Some g c = λ block fs.
    ap (λ t. Some t) (c.named.ensures block c.args.name.now)
    ∙ ap (option_map (λ k. calls_registered k)) c.in-Some.ensures
    ∙ no-local c.args.name.now ((run_state fs c.args.run.now).local c.args.name.now)
    (registered_target (g.P.Registered.parts c.args.parts.now) c.args.name.now)
    (sym c.if-has_local_helper.false ∙ c.has_local_helper.ensures fs)

pub returns-in-None : goal.returns-in-None
returns-in-None g c = λ block fs.
    ap (option_map (λ k. calls_registered k)) c.in-None.ensures
    ∙ no-local c.args.name.now ((run_state fs c.args.run.now).local c.args.name.now)
    (registered_target (g.P.Registered.parts c.args.parts.now) c.args.name.now)
    (sym c.if-has_local_helper.false ∙ c.has_local_helper.ensures fs)
