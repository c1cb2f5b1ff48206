use Rattle.std.proofs.Common.{sym}
use Rattle.handlebars_lexer.proofs.Comments.{after_long-none}
use Rattle.handlebars_lexer.proofs.comment.after_long.Goals as goal

pub returns-else-long_ahead : goal.returns-else-long_ahead
returns-else-long_ahead c = sym (after_long-none c.args.inside.now (c.requires c.if-long_ahead.false))
