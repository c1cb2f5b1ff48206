use Rattle.std.proofs.Common.{option_map, refl, sym, ap, ◌∙◌, subst}
use Rattle.handlebars_base.specs.Answers.{Answer}
use Rattle.handlebars_base.specs.PathView.{reference_of}
use Rattle.handlebars_base.specs.Scoped.{Found}
use Rattle.handlebars_scope.specs.Contexts.{data_of}
use Rattle.handlebars_expand.specs.Boxed.{answer_of}
use Rattle.handlebars_layers.specs.Destination.{IsDestination}
use Rattle.handlebars_layers.specs.LayerView.{chain_of}
use Rattle.handlebars_layers.specs.PartialsView.{partials_of}
use Rattle.handlebars_layers.specs.Sought.{sought}
use Rattle.handlebars_values.specs.Judgement.{LeadsTo}
use Rattle.handlebars_values.specs.View.{setting_in, state_with}
use Rattle.handlebars_values.proofs.PathValues.{destination-node, read-changed, read-given, resolved-in}
use Rattle.handlebars_values.proofs.find.look.Goals as goal

pub returns-in-None-clause-found : goal.returns-in-None-clause-found
returns-in-None-clause-found g c = λ captured.
    let s = state_with captured c.args.run.now in
    let r = reference_of c.args.path.now in
    subst (λ (a : Answer Found). IsDestination a c.resolve.result)
    (resolved-in s.recursive r refl c.scopes.ensures.frames c.scopes.ensures.given
    ∙ sym (read-given (setting_in g.P.Registered.parts c.args.environment.now) s (partials_of c.args.run.now.partials)
    (chain_of c.args.environment.now.innermost.nearest.now) r refl (ap (option_map data_of) c.in-None.is)))
    c.resolve.ensures

pub returns-in-None-clause-node : goal.returns-in-None-clause-node
returns-in-None-clause-node g c =
    destination-node (sought c.args.run.now.recursive_lookup c.args.environment.now.innermost c.args.path.now) c.resolve.result
    (subst (λ (a : Answer Found). IsDestination a c.resolve.result)
    (resolved-in c.args.run.now.recursive_lookup (reference_of c.args.path.now) refl c.scopes.ensures.frames c.scopes.ensures.given)
    c.resolve.ensures)

pub returns-in-Some-clause-found : goal.returns-in-Some-clause-found
returns-in-Some-clause-found g c = λ captured.
    let s = state_with captured c.args.run.now in
    subst (λ (a : Answer Found). LeadsTo a (answer_of c.look_in.result))
    (sym (read-changed (setting_in g.P.Registered.parts c.args.environment.now) s (partials_of c.args.run.now.partials)
    (chain_of c.args.environment.now.innermost.nearest.now)
    (reference_of c.args.path.now) refl (data_of c.in-Some.context) (ap (option_map data_of) c.in-Some.is)))
    c.look_in.ensures.found

pub returns-in-Some-clause-node : goal.returns-in-Some-clause-node
returns-in-Some-clause-node g c =
    c.look_in.ensures.node (sought c.args.run.now.recursive_lookup c.args.environment.now.innermost c.args.path.now)
