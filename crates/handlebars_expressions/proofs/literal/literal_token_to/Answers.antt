use Rattle.std.proofs.Common.{sym}
use Rattle.handlebars_expressions.proofs.LiteralLoop.{end_shorter, end_boundary}
use Rattle.handlebars_expressions.proofs.literal.literal_token_to.Goals as goal

pub overflow_sub-text : goal.overflow_sub-text
overflow_sub-text c = end_shorter c.args.text.now c.args.rest.now c.requires

pub split_at-requires : goal.split_at-requires
split_at-requires c = end_boundary c.args.text.now c.args.rest.now c.requires (sym c.if-starts_run.ensures)
