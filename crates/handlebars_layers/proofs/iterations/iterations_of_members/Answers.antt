use Rattle.handlebars_layers.proofs.Members.{all-members}
use Rattle.handlebars_layers.proofs.iterations.iterations_of_members.Goals as goal

pub returns-clause-members : goal.returns-clause-members
returns-clause-members c = all-members c.args.members.now.entries c.len-count.ensures.ordered
