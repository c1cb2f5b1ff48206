use Rattle.handlebars_template.proofs.Tokens.{one_tokenization}
use Rattle.handlebars_template.proofs.laws.one_tokenization.Goals as goal

pub returns : goal.returns
returns c = one_tokenization
