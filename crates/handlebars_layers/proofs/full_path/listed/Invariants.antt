use Rattle.std.proofs.Common.{◌≡◌, take}
use Rattle.handlebars_scope.specs.ResolutionView.{names_in}
use Rattle.handlebars_layers.proofs.full_path.listed.Given as goal

-- the names so far are copied
abbrev pub invariant-loop-name : goal.invariant-loop-name
invariant-loop-name l = names_in l.path.items ≡ names_in (take l.name-index l.names)
