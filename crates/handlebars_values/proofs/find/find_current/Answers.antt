use Rattle.std.proofs.Common.{option_map, refl, sym, ap, ◌∙◌, subst, []}
use Rattle.handlebars_base.specs.Answers.{Answer, Answers, answer_map}
use Rattle.handlebars_base.specs.Path.{relative}
use Rattle.handlebars_base.specs.Scoped.{Found, data_in}
use Rattle.handlebars_scope.specs.Contexts.{data_of}
use Rattle.handlebars_scope.specs.Resolve.{resolve}
use Rattle.handlebars_semantics.specs.Values.{path_value}
use Rattle.handlebars_expand.specs.Boxed.{answer_of}
use Rattle.handlebars_layers.specs.Chain.{frames}
use Rattle.handlebars_layers.specs.Destination.{IsDestination}
use Rattle.handlebars_layers.specs.LayerView.{chain_of}
use Rattle.handlebars_layers.specs.PartialsView.{partials_of}
use Rattle.handlebars_values.specs.ParamView.{value_found}
use Rattle.handlebars_values.specs.View.{setting_in, state_with}
use Rattle.handlebars_values.proofs.PathValues.{answers-map, answers-out_of_memory, present-in, read-changed, read-given, resolved-in}
use Rattle.handlebars_values.proofs.find.find_current.Goals as goal

pub returns-in-None : goal.returns-in-None
returns-in-None g c = λ captured.
    let p = setting_in g.P.Registered.parts c.args.environment.now in
    let s = state_with captured c.args.run.now in
    let r = relative [] [] in
    c.current_value.ensures (path_value p s r)
    (subst (λ (a : Answer Found). IsDestination a c.navigate.result)
    (resolved-in s.recursive r refl c.scopes-scopes.ensures.frames c.scopes-scopes.ensures.given
    ∙ sym (read-given p s (partials_of c.args.run.now.partials) (chain_of c.args.environment.now.innermost.nearest.now) r refl
    (ap (option_map data_of) c.in-None.is)))
    c.navigate.ensures)

pub returns-in_ok-navigate_in-in-Some : goal.returns-in_ok-navigate_in-in-Some
returns-in_ok-navigate_in-in-Some g c = λ captured.
    let p = setting_in g.P.Registered.parts c.args.environment.now in
    let s = state_with captured c.args.run.now in
    let r = relative [] [] in
    let layers = chain_of c.args.environment.now.innermost.nearest.now in
    let d = data_of c.in-Some.context in
    answers-map value_found data_in (path_value p s r) (answer_of c.copied.result)
    (subst (λ (a : Answer Found). Answers value_found (answer_of c.copied.result) a)
    (sym (read-changed p s (partials_of c.args.run.now.partials) layers r refl d (ap (option_map data_of) c.in-Some.is)))
    (c.copied.ensures.value (resolve s.recursive (frames layers) r d)
    (present-in s.recursive r c.in_ok-navigate_in-in-Some.ensures c.scopes-scopes.ensures.frames c.data.ensures.value)))

pub returns-in_err-navigate_in-in-Some : goal.returns-in_err-navigate_in-in-Some
returns-in_err-navigate_in-in-Some g c = λ captured.
    answers-out_of_memory (λ found. data_in (value_found found))
    (answer_map data_in (path_value (setting_in g.P.Registered.parts c.args.environment.now) (state_with captured c.args.run.now) (relative [] [])))
    c.from_residual.result c.from_residual.ensures.1
