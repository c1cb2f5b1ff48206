use Rattle.std.proofs.Common.{arith}
use Rattle.handlebars_layers.proofs.Members.{all-items}
use Rattle.handlebars_layers.proofs.iterations.iterations_of_items.Goals as goal

pub returns-clause-members : goal.returns-clause-members
returns-clause-members c =
    let vec = c.args.items.now in
    all-items vec.items vec.len vec.ok.0 (omega (arith, vec.ok.1, vec.small))
