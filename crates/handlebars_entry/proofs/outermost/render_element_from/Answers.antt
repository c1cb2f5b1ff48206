use Rattle.std.proofs.Common.{refl}
use Rattle.handlebars_entry.proofs.outermost.render_element_from.Goals as goal

pub returns-clause-renders : goal.returns-clause-renders
returns-clause-renders g c = λ blocks d outside. c.render_element_with.ensures.renders blocks c.args.parts.now d outside
    (record { parts = refl; captured = refl; inclusions = refl; indent = refl; template = refl })
