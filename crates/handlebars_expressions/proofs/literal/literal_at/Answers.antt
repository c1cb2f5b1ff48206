use Rattle.std.proofs.Common.{sym}
use Rattle.handlebars_expressions.proofs.literal.literal_at.Goals as goal

pub returns-then-starts_name-clause-reads : goal.returns-then-starts_name-clause-reads
returns-then-starts_name-clause-reads c = sym (c.starts_name.ensures.none c.if-starts_name.true)
