use Rattle.handlebars_base.proofs.Equality.{equal_is_same, equal_is_reflexive, equal_is_symmetric, equal_is_transitive}
use Rattle.handlebars_base.proofs.laws.equality_laws.Goals as goal

pub returns-clause-same : goal.returns-clause-same
returns-clause-same c = equal_is_same

pub returns-clause-reflexive : goal.returns-clause-reflexive
returns-clause-reflexive c = equal_is_reflexive

pub returns-clause-symmetric : goal.returns-clause-symmetric
returns-clause-symmetric c = equal_is_symmetric

pub returns-clause-transitive : goal.returns-clause-transitive
returns-clause-transitive c = equal_is_transitive
