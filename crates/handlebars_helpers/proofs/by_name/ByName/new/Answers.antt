use Rattle.handlebars_helpers.proofs.Marked.{empty-none}
use Rattle.handlebars_helpers.proofs.by_name.ByName.new.Goals as goal

pub returns : goal.returns
returns g c = empty-none c.new.result c.new.ensures.empty
