use Rattle.std.proofs.Common.{refl}
use Rattle.handlebars_entry.proofs.parentheses.inner_from.Goals as goal

pub returns-clause-value : goal.returns-clause-value
returns-clause-value g c = λ blocks d outside. c.inner_with.ensures.value blocks c.args.parts.now d outside
    (record { parts = refl; captured = refl; inclusions = refl; indent = refl; template = refl })
