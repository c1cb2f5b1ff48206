use Rattle.std.proofs.Common.{◌≡◌, ◌++◌, take}
use Rattle.handlebars_scope.specs.ResolutionView.{names_in}
use Rattle.handlebars_scope.proofs.context.copied_path.push_names.Given as goal

-- the names so far are added
abbrev pub invariant-loop-name : goal.invariant-loop-name
invariant-loop-name l = names_in l.path.items ≡ names_in l.initial.path.items ++ names_in (take l.name-index l.names)
