-- The code's own steps in marking what is reached: templates that are marked, and of these those whose inclusions are to be
-- followed.
use Rattle.std.specs.Prelude.{◌≡◌, ◌≢◌, ◌⊎◌, ℕ, ◌+◌, ◌*◌, ◌<◌, ◌≤◌, Bool, true, false, List, length, Some, slice_get}
use Rattle.std.specs.List.{Contains, sum_by}
use Rattle.handlebars_includes.specs.Graph.{Graph, AddsPages}

abbrev pub IsMarked : List Bool → ℕ → Type 0
IsMarked marks i = slice_get marks i ≡ Some true

abbrev pub unset : Bool → ℕ
unset true = 0
unset false = 1

-- how many are not marked
abbrev pub unmarked : List Bool → ℕ
unmarked marks = sum_by unset marks

-- These are marked, and those that weren't are to be followed.
pub record Extends (ts : List ℕ) (marks : List Bool) (pending : List ℕ) (marks' : List Bool) (pending' : List ℕ) : Type 0 where
  pub each : length marks' ≡ length marks
  pub grows : (j : ℕ) → IsMarked marks j → IsMarked marks' j
  pub marked : (j : ℕ) → IsMarked marks' j → IsMarked marks j ⊎ (Contains pending' j × Contains ts j)
  pub keeps : (j : ℕ) → Contains pending j → Contains pending' j
  pub added : (j : ℕ) → Contains pending' j → Contains pending j ⊎ Contains ts j
  pub all : (j : ℕ) → Contains ts j → j < length marks' → IsMarked marks' j
  pub costs : 2 * unmarked marks' + length pending' ≤ 2 * unmarked marks + length pending

-- What another template than this one is marked for being one of these.
pub record MarksOthers (i : ℕ) (ts : List ℕ) (marks : List Bool) (marks' : List Bool) : Type 0 where
  pub each : length marks' ≡ length marks
  pub grows : (j : ℕ) → IsMarked marks j → IsMarked marks' j
  pub marked : (j : ℕ) → IsMarked marks' j → IsMarked marks j ⊎ ((i ≢ j) × Contains ts j)
  pub all : (j : ℕ) → Contains ts j → i ≢ j → j < length marks' → IsMarked marks' j

-- After an index was looked at, all that is added from the next one on is added from this one on.
abbrev pub AddsPage : Graph → ℕ → List ℕ → List ℕ → Type 0
AddsPage g i pages pages' = (all : List ℕ) → AddsPages g (i + 1) pages' all → AddsPages g i pages all
