use Rattle.handlebars.proofs.FileOrder.{in-order, none-in-order}
use Rattle.handlebars.proofs.registry.dev.DevFiles.are_in_order.Goals as goal

pub returns-in-Some : goal.returns-in-Some
returns-in-Some c = rw c.in-Some.is (in-order c.in-Some.paths.entries c.len-count.ensures.ordered)

pub returns-in_default : goal.returns-in_default
returns-in_default c = rw c.in_default.is none-in-order
