use Rattle.std.proofs.Common.{arith}
use Rattle.handlebars_scope.proofs.Indexes.{index_of-three, index_of-four}
use Rattle.handlebars_scope.proofs.context.members.short_index.Goals as goal

pub returns-in_ok-digit-in-len3-3 : goal.returns-in_ok-digit-in-len3-3
returns-in_ok-digit-in-len3-3 c =
    index_of-three c.args.name.now _ _ _ (omega arith) c.in_ok-digit-in-len3.ensures
    c.in_ok-digit-in-len3-2.ensures c.in_ok-digit-in-len3-3.ensures

pub returns-in_ok-digit-in-len4-3 : goal.returns-in_ok-digit-in-len4-3
returns-in_ok-digit-in-len4-3 c =
    index_of-four c.args.name.now _ _ _ _ (omega arith) c.in_ok-digit-in-len4.ensures
    c.in_ok-hundreds-in-len4.ensures c.in_ok-digit-in-len4-2.ensures c.in_ok-digit-in-len4-3.ensures
