use Rattle.std.proofs.Common.{List, ℕ}
use Rattle.serde_json.specs.View.{view}
use Rattle.handlebars_scope.proofs.Maps.{get_by_text-empty}
use Rattle.handlebars_scope.proofs.local_vars.LocalVars.new.Goals as goal

pub returns : goal.returns
returns c =
    let all = λ (name : List ℕ). get_by_text-empty view c.new.result c.new.ensures.empty name in
    λ i name. all name i
