use Rattle.std.proofs.Common.{rules, Some}
use Rattle.handlebars.proofs.Paths.{source_path-updates}
use Rattle.handlebars.proofs.registry.dev.replace.Goals as goal

pub returns-in-Some : goal.returns-in-Some
returns-in-Some c = λ there other. source_path-updates c.args.name.now c.args.paths.now (c.get_mut.follows.lender c.args.path) (Some c.args.path)
    ((c.get_mut.follows.holds c.args.path).3 (search rules)) other
