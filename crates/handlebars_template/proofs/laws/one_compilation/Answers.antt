use Rattle.handlebars_template.proofs.One.{one_compilation}
use Rattle.handlebars_template.proofs.laws.one_compilation.Goals as goal

pub returns : goal.returns
returns c = one_compilation
