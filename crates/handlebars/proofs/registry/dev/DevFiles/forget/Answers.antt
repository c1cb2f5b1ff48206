use Rattle.std.proofs.Common.{None}
use Rattle.handlebars.proofs.Paths.{source_path-updates}
use Rattle.handlebars.proofs.registry.dev.DevFiles.forget.Goals as goal

pub returns-in-Some-clause-gone : goal.returns-in-Some-clause-gone
returns-in-Some-clause-gone c = λ other.
    rw c.in-Some.is (source_path-updates c.args.name.now c.in-Some.paths c.remove.new.self None c.remove.ensures.updates other)
