use Rattle.std.proofs.Common.{ap, ◌∙◌}
use Rattle.serde_json.specs.View.{members_view}
use Rattle.serde_json.proofs.Views.{members_view-insert_entry}
use Rattle.handlebars_data.proofs.members.put.Goals as goal

pub returns-clause-ok : goal.returns-clause-ok
returns-clause-ok c = ap members_view c.in_ok-insert.ensures.entries ∙ members_view-insert_entry c.args.members.now.entries c.args.key c.args.value
