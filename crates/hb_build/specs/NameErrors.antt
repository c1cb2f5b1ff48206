-- What is wrong with the names of all items.
use Rattle.std.specs.Prelude.{◌≡◌, ◌<◌, List, Some, slice_get, string_bytes}
use Rattle.hb_build.specs.Name.{Name, IsAcceptable, IsFolderOf}
use Rattle.hb_build.specs.declared.error.BuildError.{BuildError}
use Rattle.hb_build.specs.declared.error.BuildError.TheVariants as errors

-- The item of this number has this name, which is not acceptable; two items have this name; or an item has this name, and
-- another one lies in a folder of this name.
abbrev pub IsNameError : List Name → BuildError → Type 0
IsNameError names errors.OutOfMemory = Unit {0}
IsNameError names (errors.Unacceptable item name) = (slice_get names item ≡ Some (string_bytes name)) × (IsAcceptable (string_bytes name) → ⊥)
IsNameError names (errors.Twice first second name) =
    (first < second) × (slice_get names first ≡ Some (string_bytes name)) × (slice_get names second ≡ Some (string_bytes name))
IsNameError names (errors.FileAndFolder file within name) =
    (slice_get names file ≡ Some (string_bytes name)) × (b : Name) × (slice_get names within ≡ Some b) × IsFolderOf (string_bytes name) b
IsNameError names _ = ⊥
