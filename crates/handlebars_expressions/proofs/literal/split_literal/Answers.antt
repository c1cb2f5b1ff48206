use Rattle.handlebars_expressions.proofs.LiteralLoop.{result_reflects}
use Rattle.handlebars_expressions.proofs.literal.split_literal.Goals as goal

pub returns-clause-reads : goal.returns-clause-reads
returns-clause-reads c = result_reflects c.args.text.now c.literal_at.result c.literal_at.ensures.reads
