use Rattle.handlebars.proofs.MarkupOrder.{names-in-order}
use Rattle.handlebars.proofs.registry.markup.names_are_in_order.Goals as goal

pub returns : goal.returns
returns c = names-in-order c.args.templates.now.entries c.len-count.ensures.ordered
