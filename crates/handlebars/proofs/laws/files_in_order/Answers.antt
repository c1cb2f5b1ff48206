use Rattle.handlebars.proofs.FileOrder.{files-under}
use Rattle.handlebars.proofs.laws.files_in_order.Goals as goal

pub returns-clause-paths : goal.returns-clause-paths
returns-clause-paths g c = λ name. files-under c.args.registry.now.dev.paths name
