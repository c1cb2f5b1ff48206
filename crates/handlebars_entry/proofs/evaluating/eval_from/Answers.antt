use Rattle.std.proofs.Common.{refl}
use Rattle.handlebars_entry.proofs.evaluating.eval_from.Goals as goal

pub returns-clause-evals : goal.returns-clause-evals
returns-clause-evals g c = λ blocks d outside. c.eval_with.ensures.evals blocks c.args.parts.now d outside
    (record { parts = refl; captured = refl; inclusions = refl; indent = refl; template = refl })
