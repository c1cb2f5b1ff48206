-- The two passes over the pages.
use Rattle.std.specs.Prelude.{◌≡◌, ◌⊎◌, ℕ, zero, suc, ◌+◌, ◌-◌, ◌%◌, ◌==◌, if◌then◌else◌, Bool, true, false, List, [], ◌∷◌, Option, Some, None, length, slice_get, string_bytes, IfSome, MatchOption}
use Rattle.std.specs.List.{AllByRecursion}
use Rattle.hb_build.specs.Name.{Name, IsFolderOf}
use Rattle.hb_build.specs.Entries.{Entries, AreSame, IsClear, IsFileOrFree, IsFolderOrFree}
use Rattle.hb_build.specs.Given.{IfFault}
use Rattle.hb_build.specs.Items.{Fate, created, changed, unchanged, failed, Item, outcome_of, WasFound, IsStored}
use Rattle.hb_build.specs.declared.source.Pages as pages
use Rattle.hb_build.specs.declared.files.Store as stores
use Rattle.hb_build.specs.declared.outcome.Report as reports
use Rattle.hb_build.specs.declared.outcome.Cause.{Cause}
use Rattle.hb_build.specs.declared.outcome.Cause.TheVariants as causes
use Rattle.hb_build.specs.declared.options.Shard.{Shard}
use Rattle.hb_build.specs.declared.options.Settings.{Settings}
use Rattle.hb_build.specs.declared.error.BuildError.{BuildError}
use Rattle.hb_build.specs.declared.error.BuildError.TheVariants as errors

-- the item of this number is of the shard
abbrev pub IsInShard : Shard → ℕ → Type 0
IsInShard shard item = item % shard.count ≡ shard.number - 1

-- how many of so many items, the first of which has this number, are of the shard
abbrev pub share_of : Shard → ℕ → ℕ → ℕ
share_of shard item zero = 0
share_of shard item (suc more) = (if item % shard.count == shard.number - 1 then 1 else 0) + share_of shard (item + 1) more

module _ {P : Type 0} (p : pages.Ghosts P) where
  -- from this state on, the pages have items of these names, one after another, and end up in that state
  abbrev pub HasNames : P → List Name → P → Type 0
  HasNames s [] t = s ≡ t
  HasNames s (name ∷ names) t = (u : P) × p.advances s (Some true) u × p.names u (Some name) × HasNames u names t

  -- the pages are rewound, and have items of these names, from the first one on
  pub record IsBegun (old : P) (names : List Name) (now : P) : Type 0 where
    pub first : P
    pub rewound : p.rewinds old true first
    pub given : HasNames first names now

  -- the first pass: the pages have items of these names and no more
  pub record IsFirstPass (old : P) (names : List Name) (new : P) : Type 0 where
    pub last : P
    pub begun : IsBegun old names last
    pub ended : p.advances last (Some false) new

  -- Why the first pass stops: the pages can't be rewound, the item of this number can't be reached, or it has no name.
  abbrev pub IsPagesError : P → P → BuildError → Type 0
  IsPagesError old now errors.OutOfMemory = Unit {0}
  IsPagesError old now (errors.Items item cause) = IfFault cause (((item ≡ 0) × p.rewinds old false now)
      ⊎ ((t : P) × (names : List Name) × IsBegun old names t × (length names ≡ item) × p.advances t None now))
  IsPagesError old now (errors.Name item cause) = IfFault cause
      ((t : P) × (names : List Name) × IsBegun old names t × (length names ≡ item) × p.advances t (Some true) now × p.names now None)
  IsPagesError old now _ = ⊥

module _ {S : Type 0} (s : stores.Ghosts S) where
  -- the entries change so, and a store that is reliable afterwards was it before
  pub record Changes (so : Entries → Entries → Type 0) (old new : S) : Type 0 where
    pub was_reliable : s.reliable new → s.reliable old
    pub change : s.reliable new → so (s.entries old) (s.entries new)

  -- the store has what it had
  abbrev pub IsPreserved : S → S → Type 0
  IsPreserved old new = Changes AreSame old new

  -- what is in the way, or that the store fails, is why a file can't be written
  abbrev pub IsWayCause : Type 0 → Type 0 → Cause → Type 0
  IsWayCause not_a_file not_a_folder (causes.Text _) = ⊥
  IsWayCause not_a_file not_a_folder causes.NotAFile = not_a_file
  IsWayCause not_a_file not_a_folder causes.NotAFolder = not_a_folder
  IsWayCause not_a_file not_a_folder (causes.Store cause) = s.may_give cause

  -- something else than a file stands at the name
  abbrev pub IsNotAFile : S → S → Name → Type 0
  IsNotAFile old new name = s.reliable new → IsFileOrFree (s.entries old name) → ⊥

  -- something else than a folder stands where a folder of the name belongs
  abbrev pub HasNoFolder : S → S → Name → Type 0
  HasNoFolder old new name = s.reliable new → (f : Name) × IsFolderOf f name × (IsFolderOrFree (s.entries old f) → ⊥)

  -- why a file of this name can't be written
  abbrev pub IsInTheWay : S → S → Name → Cause → Type 0
  IsInTheWay old new name = IsWayCause (IsNotAFile old new name) (HasNoFolder old new name)

  -- why an item that has a text fails
  abbrev pub IsStoreCause : Cause → Type 0
  IsStoreCause (causes.Text _) = ⊥
  IsStoreCause causes.NotAFile = Unit {0}
  IsStoreCause causes.NotAFolder = Unit {0}
  IsStoreCause (causes.Store cause) = s.may_give cause

  -- what becomes of the file of this name, and of the store with it
  pub record IsPlaced (dry_run : Bool) (name : Name) (fate : Fate) (old new : S) : Type 0 where
    pub found : s.reliable new → WasFound (s.entries old) name fate
    pub stored : Changes (IsStored dry_run (record { name = name; fate = Some fate } ∷ [])) old new

  -- Something is in the way of the item of this number, which is of the shard.
  abbrev pub IsWayError : Shard → S → S → List Name → BuildError → Type 0
  IsWayError shard old new names errors.OutOfMemory = Unit {0}
  IsWayError shard old new names (errors.Failed item name cause) = (slice_get names item ≡ Some (string_bytes name))
      × IsInShard shard item × IsInTheWay old new (string_bytes name) cause
  IsWayError shard old new names _ = ⊥

-- nothing is in the way of the items of the shard
abbrev pub AreClear : Shard → Entries → List Name → Type 0
AreClear shard entries names = (item : ℕ) (name : Name) → slice_get names item ≡ Some name → IsInShard shard item → IsClear entries name

module _ {P S : Type 0} (p : pages.Ghosts P) (s : stores.Ghosts S) where
  -- Why an item fails, in this state: it has no text, or the store fails. What else may be why, `WasFound` says.
  abbrev pub IsCause : P → Cause → Type 0
  IsCause u (causes.Text cause) = IfFault cause (p.texts u None)
  IsCause u causes.NotAFile = Unit {0}
  IsCause u causes.NotAFolder = Unit {0}
  IsCause u (causes.Store cause) = s.may_give cause

  -- the text is the one that the pages have in this state
  abbrev pub IsFate : P → Fate → Type 0
  IsFate u (created text) = p.texts u (Some text)
  IsFate u (changed text) = p.texts u (Some text)
  IsFate u (unchanged text) = p.texts u (Some text)
  IsFate u (failed cause) = IsCause u cause

  -- From here on: the settings, and the names that the first pass gave.
  module _ (settings : Settings) (names : List Name) where
    -- The pages advance to an item of the shard. It has this name, and is built with the text that the pages have. Any other item
    -- is skipped.
    abbrev pub IsPassed : ℕ → P → Name → Option Fate → P → Type 0
    IsPassed k t name None u = (IsInShard settings.shard k → ⊥) × p.skips t (Some true) u
    IsPassed k t name (Some fate) u = IsInShard settings.shard k × p.advances t (Some true) u × p.names u (Some name) × IsFate u fate

    -- The pages go past the item of this number. Its name is the one that it had in the first pass.
    pub record IsStep (k : ℕ) (t : P) (item : Item) (u : P) : Type 0 where
      pub same_name : slice_get names k ≡ Some item.name
      pub passed : IsPassed k t item.name item.fate u

    -- from this state on, the pages have these items, the first of which has this number, and end up in that state
    abbrev pub HasItems : ℕ → P → List Item → P → Type 0
    HasItems k t [] v = t ≡ v
    HasItems k t (item ∷ items) v = (u : P) × IsStep k t item u × HasItems (k + 1) u items v

-- these items, the first of which has this number, are reported one after another, if they are of the shard
abbrev pub IsReported : {R : Type 0} → reports.Ghosts R → List Name → ℕ → R → List Item → R → Type 0
IsReported r names k before [] after = before ≡ after
IsReported {R} r names k before (item ∷ items) after = MatchOption item.fate
    (IsReported r names (k + 1) before items after)
    (λ fate. (next : R) × r.reports before k (length names) item.name (outcome_of fate) next × IsReported r names (k + 1) next items after)

-- the item of this number is built and reported, if it is of the shard
pub record IsDone {S R : Type 0} (s : stores.Ghosts S) (r : reports.Ghosts R) (settings : Settings) (names : List Name)
    (k : ℕ) (item : Item) (old new : S) (before after : R) : Type 0 where
  pub found : s.reliable new → IfSome item.fate (WasFound (s.entries old) item.name)
  pub stored : Changes s (IsStored settings.dry_run (item ∷ [])) old new
  pub reported : IsReported r names k before (item ∷ []) after

module _ {P S R : Type 0} (p : pages.Ghosts P) (s : stores.Ghosts S) (r : reports.Ghosts R) (settings : Settings) (names : List Name) where
  -- The second pass so far: the pages have these items, from the first one on, and those of the shard are built and reported.
  pub record IsSecondPass (first last : P) (old new : S) (before after : R) (items : List Item) : Type 0 where
    pub given : HasItems p s settings names 0 first items last
    pub found : s.reliable new → AllByRecursion (λ item. IfSome item.fate (WasFound (s.entries old) item.name)) items
    pub stored : Changes s (IsStored settings.dry_run items) old new
    pub reported : IsReported r names 0 before items after
