use Rattle.handlebars_values.specs.BuiltIn.{written_by}
use Rattle.handlebars_values.proofs.by_first.decide_by_value.Goals as goal

pub returns-in-Not-clause-decides : goal.returns-in-Not-clause-decides
returns-in-Not-clause-decides c = rw c.in-Not.is (c.decide_not.ensures.decides c.args.asked (written_by c.args.written) c.args.zero)

pub returns-in-Not-clause-given : goal.returns-in-Not-clause-given
returns-in-Not-clause-given c = λ d of. c.decide_not.ensures.given d

pub returns-in-Len-clause-decides : goal.returns-in-Len-clause-decides
returns-in-Len-clause-decides c = rw c.in-Len.is (c.decide_len.ensures.decides c.args.asked (written_by c.args.written) c.args.zero)

pub returns-in-Len-clause-given : goal.returns-in-Len-clause-given
returns-in-Len-clause-given c = λ d of. c.decide_len.ensures.given d
