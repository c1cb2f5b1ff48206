use Rattle.std.proofs.Common.{refl}
use Rattle.handlebars_entry.proofs.outermost.include_from.Goals as goal

pub returns-clause-renders : goal.returns-clause-renders
returns-clause-renders g c = λ blocks d outside same. c.include_with.ensures.renders blocks c.args.parts.now d same outside
    (record { parts = refl; captured = refl; inclusions = refl; indent = refl; template = refl })
