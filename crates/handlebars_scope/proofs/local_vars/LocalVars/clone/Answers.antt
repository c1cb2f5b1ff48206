use Rattle.std.proofs.Common.{List, ℕ}
use Rattle.handlebars_scope.proofs.Maps.{get_by_text-copied}
use Rattle.handlebars_scope.proofs.local_vars.LocalVars.clone.Goals as goal

pub returns : goal.returns
returns c =
    let all = λ (name : List ℕ).
    get_by_text-copied c.args.self.now.by_name c.in_ok-by_name.by_name c.in_ok-by_name.ensures.cases name in
    λ i name. all name i
