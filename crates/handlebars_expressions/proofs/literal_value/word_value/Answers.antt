use Rattle.handlebars_expressions.proofs.CommonJson.{if_true, if_false, if_null}
use Rattle.handlebars_expressions.proofs.literal_value.word_value.Goals as goal

pub returns-in-true : goal.returns-in-true
returns-in-true c = if_true c.args.text.now c.in-true.is

pub returns-in-false : goal.returns-in-false
returns-in-false c = if_false c.args.text.now c.in-false.is

pub returns-in-null : goal.returns-in-null
returns-in-null c = if_null c.args.text.now c.in-null.is
