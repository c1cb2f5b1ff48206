use Rattle.std.proofs.Common.{option_map, refl, sym, ap}
use Rattle.handlebars_base.specs.PathView.{reference_of}
use Rattle.handlebars_scope.specs.Contexts.{data_of}
use Rattle.handlebars_expand.specs.Boxed.{answer_of}
use Rattle.handlebars_layers.specs.LayerView.{chain_of}
use Rattle.handlebars_layers.specs.PartialsView.{partials_of}
use Rattle.handlebars_values.specs.ParamView.{value_found}
use Rattle.handlebars_values.specs.View.{setting_in, state_with}
use Rattle.handlebars_values.proofs.PathValues.{read-changed, read-given, yields-same}
use Rattle.handlebars_values.proofs.find.find.Goals as goal

pub returns-in-None-clause-value : goal.returns-in-None-clause-value
returns-in-None-clause-value g c = λ captured.
    yields-same value_found (answer_of c.find_in_given.result)
    (sym (read-given (setting_in g.P.Registered.parts c.args.environment.now) (state_with captured c.args.run.now)
    (partials_of c.args.run.now.partials) (chain_of c.args.environment.now.innermost.nearest.now) (reference_of c.args.path.now) refl
    (ap (option_map data_of) c.in-None.is)))
    c.find_in_given.ensures.value

pub returns-in-Some-clause-value : goal.returns-in-Some-clause-value
returns-in-Some-clause-value g c = λ captured.
    yields-same value_found (answer_of c.find_in.result)
    (sym (read-changed (setting_in g.P.Registered.parts c.args.environment.now) (state_with captured c.args.run.now)
    (partials_of c.args.run.now.partials) (chain_of c.args.environment.now.innermost.nearest.now) (reference_of c.args.path.now) refl
    (data_of c.in-Some.context) (ap (option_map data_of) c.in-Some.is)))
    c.find_in.ensures.value

pub returns-in-Some-clause-given : goal.returns-in-Some-clause-given
returns-in-Some-clause-given g c = c.find_in.ensures.given (data_of c.args.environment.now.innermost.given.now)
