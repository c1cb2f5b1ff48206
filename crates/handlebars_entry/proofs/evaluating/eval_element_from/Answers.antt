use Rattle.std.proofs.Common.{refl}
use Rattle.handlebars_entry.proofs.evaluating.eval_element_from.Goals as goal

pub returns-clause-does : goal.returns-clause-does
returns-clause-does g c = λ blocks d outside. c.eval_element_with.ensures.does blocks c.args.parts.now d outside
    (record { parts = refl; captured = refl; inclusions = refl; indent = refl; template = refl })
