use Rattle.handlebars_template.proofs.Tokens.{tokens_join}
use Rattle.handlebars_template.proofs.laws.tokens_join.Goals as goal

pub returns : goal.returns
returns c = tokens_join
