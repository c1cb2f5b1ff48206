use Rattle.std.proofs.Common.{arith}
use Rattle.handlebars_lexer.proofs.Texts.{ends_with_backslash-last}
use Rattle.handlebars_lexer.proofs.text.ends_with_backslash.Goals as goal

pub returns-in-len1-up : goal.returns-in-len1-up
returns-in-len1-up c = ends_with_backslash-last c.args.text.now (omega (arith, c.in-len1-up.len_at_least))
