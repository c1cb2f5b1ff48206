use Rattle.std.proofs.Common.{◌∙◌}
use Rattle.handlebars_scope.proofs.Indexes.{index_by_parse}
use Rattle.handlebars_scope.proofs.context.members.index_of.Goals as goal

pub returns-in-None : goal.returns-in-None
returns-in-None c = c.ok.ensures.value ∙ index_by_parse c.args.text.now _ c.parse.ensures.value.0
