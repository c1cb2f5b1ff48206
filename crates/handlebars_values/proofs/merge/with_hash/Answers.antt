use Rattle.std.proofs.Common.{◌∙◌}
use Rattle.serde_json.specs.View.{members_view}
use Rattle.handlebars_values.proofs.Merging.{with_hash-done}
use Rattle.handlebars_values.proofs.merge.with_hash.Goals as goal

pub returns : goal.returns
returns c = with_hash-done c.hash.key-iterator (members_view c.hash.all.entries) c.in-None.ensures.steps.0 ∙ c.hash.invariant
