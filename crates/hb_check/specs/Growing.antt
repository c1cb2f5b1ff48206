-- The code's own steps in following inclusions: what is not reached yet is reached, and stays so.
use Rattle.std.specs.Prelude.{◌≡◌, ◌⊎◌, ℕ, ◌+◌, ◌<◌, ◌≤◌, ◌++◌, Bool, true, false, List, Some, get_or, length, slice_get}
use Rattle.std.specs.List.{Contains, sum_by}
use Rattle.handlebars_includes.specs.Graph.{Graph, Includes}
use Rattle.hb_check.specs.Chains.{IsInclusion, IsReached, is_unreached}
use Rattle.hb_check.specs.declared.chains.Includer.{Includer}
use Rattle.hb_check.specs.declared.chains.Way.{Way}
use Rattle.hb_check.specs.declared.chains.Way.TheVariants.{Unreached, Page, Included}

-- Each template stays as it is, or it wasn't reached, and is in a way of which this holds.
abbrev pub Grows : (ℕ → Way → Type 0) → List Way → List Way → Type 0
Grows P before after = (i : ℕ)
    → (slice_get after i ≡ slice_get before i)
    ⊎ ((slice_get before i ≡ Some Unreached) × (w : Way) × (slice_get after i ≡ Some w) × P i w)

-- this template, in this way
abbrev pub IsVisit : ℕ → Way → ℕ → Way → Type 0
IsVisit i w j v = (j ≡ i) × (v ≡ w)

abbrev pub IsPage : ℕ → Way → Type 0
IsPage i w = w ≡ Page

abbrev pub IsFound : Graph → ℕ → Way → Type 0
IsFound g i w = (x : Includer) × (w ≡ Included x) × IsInclusion g i x

-- None is reached.
abbrev pub AreUnreached : List Way → Type 0
AreUnreached ways = (i : ℕ) (w : Way) → slice_get ways i ≡ Some w → w ≡ Unreached

-- ---- what is to be followed

abbrev pub one_if : Bool → ℕ
one_if true = 1
one_if false = 0

-- how many aren't reached
abbrev pub unreached : List Way → ℕ
unreached ways = sum_by (λ w. one_if (is_unreached w)) ways

-- These are reached, and those that weren't are to be followed, after all others.
pub record Queues (ts : List ℕ) (before : List Way) (order : List ℕ) (after : List Way) (order' : List ℕ) : Type 0 where
  pub each : length after ≡ length before
  pub keeps : (i : ℕ) → IsReached before i → IsReached after i
  pub queued : (i : ℕ) → IsReached after i → IsReached before i ⊎ Contains order' i
  pub longer : (new : List ℕ) × (order' ≡ order ++ new)
  pub all : (i : ℕ) → Contains ts i → i < length after → IsReached after i
  pub costs : unreached after + length order' ≤ unreached before + length order

-- Of the templates that are to be followed, so many were: what they include is reached. Each that is reached is to be followed, once
-- at most.
pub record Follows (g : Graph) (k size : ℕ) (ways : List Way) (order : List ℕ) : Type 0 where
  pub sized : length ways ≡ size
  pub queued : (i : ℕ) → IsReached ways i → Contains order i
  pub followed : (n : ℕ) → n < k → n < length order → (j : ℕ) → Includes g (get_or order n 0) j → j < length ways → IsReached ways j
  pub costs : unreached ways + length order ≤ length ways
