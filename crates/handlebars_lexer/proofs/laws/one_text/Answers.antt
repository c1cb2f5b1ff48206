use Rattle.handlebars_lexer.proofs.OneText.{one_text}
use Rattle.handlebars_lexer.proofs.laws.one_text.Goals as goal

pub returns : goal.returns
returns c = one_text
