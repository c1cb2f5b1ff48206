use Rattle.handlebars_data.proofs.MergedKeys.{merges_by_key}
use Rattle.handlebars_data.proofs.laws.merge_laws.Goals as goal

pub returns : goal.returns
returns c = merges_by_key
