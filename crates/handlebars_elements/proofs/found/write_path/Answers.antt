use Rattle.std.proofs.Common.{refl}
use Rattle.handlebars_elements.proofs.found.write_path.Goals as goal

pub returns-clause-writes : goal.returns-clause-writes
returns-clause-writes g c = λ occurrence location call v named captured.
    c.write_sought-written.ensures.writes occurrence location call v named refl captured
