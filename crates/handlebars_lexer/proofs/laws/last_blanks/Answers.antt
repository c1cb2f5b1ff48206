use Rattle.handlebars_lexer.proofs.Blanks.{last_blanks-end}
use Rattle.handlebars_lexer.proofs.laws.last_blanks.Goals as goal

pub returns : goal.returns
returns c = last_blanks-end
