use Rattle.handlebars_template.proofs.ParametersParsed.{one_parsing}
use Rattle.handlebars_template.proofs.laws.one_parsing.Goals as goal

pub returns : goal.returns
returns c = one_parsing
