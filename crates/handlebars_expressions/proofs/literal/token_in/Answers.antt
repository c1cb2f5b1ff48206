use Rattle.std.proofs.Common.{◌∙◌}
use Rattle.handlebars_expressions.specs.LiteralView.{token_of}
use Rattle.handlebars_expressions.proofs.LiteralLoop.{top_token}
use Rattle.handlebars_expressions.proofs.literal.token_in.Goals as goal

pub returns : goal.returns
returns c = top_token c.args.ahead c.args.around.now.items c.deref.result.now c.copied.result c.args.text.now (token_of c.token_at.result) c.token_at.ensures (c.copied.ensures ∙ c.last.ensures.value) c.deref.ensures.value
