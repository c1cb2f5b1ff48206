use Rattle.std.proofs.Common.{◌≡◌, ℕ, ◌<◌, None, Some, slice_get}
use Rattle.hb_build.specs.Name.{Name, IsFolderOf, names_of}
use Rattle.hb_build.specs.Numbers.{number_in}
use Rattle.hb_build.proofs.checks.check_names.Given as goal

-- no folder of the names so far has a number
abbrev pub invariant-loop-item : goal.invariant-loop-item
invariant-loop-item l = (j : ℕ) (name : Name) → j < l.item → slice_get (names_of l.names) j ≡ Some name
    → (f : Name) → IsFolderOf f name → number_in l.numbers f ≡ None
