use Rattle.std.proofs.Common.{rules, refl}
use Rattle.handlebars.proofs.registry.files.unread.Goals as goal

pub returns-in-Ok : goal.returns-in-Ok
returns-in-Ok c = record {
  refusal = λ other. (search rules, (c.args.cause, c.in-Ok.name, c.from.ensures.cause, refl), search rules);
}
