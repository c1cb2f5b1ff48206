use Rattle.handlebars_lexer.proofs.InsidesRead.{close_read}
use Rattle.handlebars_lexer.proofs.tag.inside.close.Goals as goal

pub returns : goal.returns
returns c = close_read c.args.text.now c.close_name_at.result.0 c.close_name_at.result.1 c.closed.result c.close_name_at.ensures c.closed.ensures
