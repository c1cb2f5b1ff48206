use Rattle.handlebars_base.proofs.Orders.{order_is_antisymmetric, numbers_are_ordered, texts_are_ordered}
use Rattle.handlebars_base.proofs.laws.order_laws.Goals as goal

pub returns-clause-antisymmetric : goal.returns-clause-antisymmetric
returns-clause-antisymmetric c = order_is_antisymmetric

pub returns-clause-numbers : goal.returns-clause-numbers
returns-clause-numbers c = numbers_are_ordered

pub returns-clause-texts : goal.returns-clause-texts
returns-clause-texts c = texts_are_ordered
