use Rattle.std.proofs.Common.{◌≡◌, drop}
use Rattle.serde_json.specs.View.{view}
use Rattle.handlebars_scope.specs.Resolve.{value_at}
use Rattle.handlebars_scope.specs.ResolutionView.{names_in}
use Rattle.handlebars_scope.proofs.context.members.along_names.Given as goal

-- the names that are left lead from here to where all of them lead from the start
abbrev pub invariant-loop-index : goal.invariant-loop-index
invariant-loop-index l =
    value_at (view l.here) (names_in (drop l.index l.names)) ≡ value_at (view l.given) (names_in l.names)
