use Rattle.handlebars_lexer.proofs.OneText.{clear_text}
use Rattle.handlebars_lexer.proofs.laws.clear_text.Goals as goal

pub returns : goal.returns
returns c = clear_text
