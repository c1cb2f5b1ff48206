use Rattle.handlebars_lexer.proofs.OneTag.{one_tag}
use Rattle.handlebars_lexer.proofs.laws.one_tag.Goals as goal

pub returns : goal.returns
returns c = one_tag
