-- What becomes of the items, and of the store with them.
use Rattle.std.specs.Prelude.{◌≡◌, ◌≢◌, ◌⊎◌, ℕ, ◌+◌, ◌^◌, ◌<◌, Bool, true, false, List, [], ◌∷◌, Option, Some, None, IfSome, OnSome, IsSome, count_by}
use Rattle.std.specs.List.{AllByRecursion}
use Rattle.std.specs.Option.{option_and_then, option_map_or}
use Rattle.hb_build.specs.Name.{Name, IsFolderOf}
use Rattle.hb_build.specs.Entries.{Entries, Text, nothing, file, folder, IsFileOrFree, IsFolderOrFree, AreSame}
use Rattle.hb_build.specs.declared.outcome.Cause.{Cause}
use Rattle.hb_build.specs.declared.outcome.Cause.TheVariants as causes
use Rattle.hb_build.specs.declared.outcome.Outcome.{Outcome}
use Rattle.hb_build.specs.declared.outcome.Outcome.TheVariants as outcomes
use Rattle.hb_build.specs.declared.outcome.Summary.{Summary}

-- What becomes of an item of the shard: its file is created, changed or found unchanged, with this text, or it fails.
pub data Fate : Type 0 where
  created : Text → Fate
  changed : Text → Fate
  unchanged : Text → Fate
  failed : Cause → Fate

-- an item: the name of its file, and what becomes of it, if it is of the shard
pub record Item : Type 0 where
  pub name : Name
  pub fate : Option Fate

-- the text of the file, if it has been built
abbrev pub text_of : Fate → Option Text
text_of (created text) = Some text
text_of (changed text) = Some text
text_of (unchanged text) = Some text
text_of (failed _) = None

-- what is reported
abbrev pub outcome_of : Fate → Outcome
outcome_of (created _) = outcomes.Created
outcome_of (changed _) = outcomes.Changed
outcome_of (unchanged _) = outcomes.Unchanged
outcome_of (failed cause) = outcomes.Failed cause

-- the fate with this text of which this is reported
abbrev pub fate_of : Text → Outcome → Fate
fate_of text outcomes.Created = created text
fate_of text outcomes.Changed = changed text
fate_of text outcomes.Unchanged = unchanged text
fate_of text (outcomes.Failed cause) = failed cause

-- What the fate says of the store as it was found: nothing stood where a file was created, and another text where it was
-- changed. Where something is said to be in the way, something was.
abbrev pub WasFound : Entries → Name → Fate → Type 0
WasFound before name (created text) = before name ≡ nothing
WasFound before name (changed text) = (t : Text) × (before name ≡ file t) × (t ≢ text)
WasFound before name (unchanged text) = before name ≡ file text
WasFound before name (failed (causes.Text _)) = Unit {0}
WasFound before name (failed causes.NotAFile) = IsFileOrFree (before name) → ⊥
WasFound before name (failed causes.NotAFolder) = (f : Name) × IsFolderOf f name × (IsFolderOrFree (before f) → ⊥)
WasFound before name (failed (causes.Store _)) = Unit {0}

-- the text of the item's file, if it has been built
abbrev pub built_text : Item → Option Text
built_text item = option_and_then text_of item.fate

-- the item's file, if it has been built, has its text
abbrev pub IsHeld : Entries → Item → Type 0
IsHeld after item = IfSome (built_text item) (λ text. after item.name ≡ file text)

-- the path is not that of the item's file, if it has been built
abbrev pub IsElsewhere : Name → Item → Type 0
IsElsewhere path item = OnSome (built_text item) (path ≢ item.name)

-- the folder is one of the name of an item of the shard
abbrev pub IsFolderOfSome : Name → List Item → Type 0
IsFolderOfSome f [] = ⊥
IsFolderOfSome f (item ∷ items) = (IsSome item.fate × IsFolderOf f item.name) ⊎ IsFolderOfSome f items

-- a folder of an item of the shard, which is made where nothing stood
pub record IsNewFolder (path : Name) (items : List Item) (before after : Entries) : Type 0 where
  pub free : before path ≡ nothing
  pub made : after path ≡ folder
  pub of_item : IsFolderOfSome path items

-- The file of each item that has been built has its text. Nothing else is changed, but folders of these names are made.
pub record IsWritten (items : List Item) (before after : Entries) : Type 0 where
  pub held : AllByRecursion (IsHeld after) items
  pub others : (path : Name) → AllByRecursion (IsElsewhere path) items
      → (after path ≡ before path) ⊎ IsNewFolder path items before after

-- in a dry run nothing is changed
abbrev pub IsStored : Bool → List Item → Entries → Entries → Type 0
IsStored true items before after = AreSame before after
IsStored false items before after = IsWritten items before after

abbrev pub is_created : Fate → Bool
is_created (created _) = true
is_created _ = false

abbrev pub is_changed : Fate → Bool
is_changed (changed _) = true
is_changed _ = false

abbrev pub is_unchanged : Fate → Bool
is_unchanged (unchanged _) = true
is_unchanged _ = false

abbrev pub is_failed : Fate → Bool
is_failed (failed _) = true
is_failed _ = false

-- how many items of the shard have such a fate
abbrev pub count_of : (Fate → Bool) → List Item → ℕ
count_of test items = count_by (λ item. option_map_or test item.fate false) items

-- a summary counts the items of the shard, each by its fate
pub record Counts (items : List Item) (summary : Summary) : Type 0 where
  pub created : summary.created ≡ count_of is_created items
  pub changed : summary.changed ≡ count_of is_changed items
  pub unchanged : summary.unchanged ≡ count_of is_unchanged items
  pub failed : summary.failed ≡ count_of is_failed items

-- the summary with one more item
abbrev pub counted : Outcome → Summary → Summary
counted outcomes.Created summary = record summary { created = summary.created + 1 }
counted outcomes.Changed summary = record summary { changed = summary.changed + 1 }
counted outcomes.Unchanged summary = record summary { unchanged = summary.unchanged + 1 }
counted (outcomes.Failed _) summary = record summary { failed = summary.failed + 1 }

-- no items are counted
abbrev pub empty_summary : Summary
empty_summary = record { created = 0; changed = 0; unchanged = 0; failed = 0 }

-- each number can grow by one
pub record HasRoom (summary : Summary) : Type 0 where
  pub created : summary.created + 1 < 2 ^ 64
  pub changed : summary.changed + 1 < 2 ^ 64
  pub unchanged : summary.unchanged + 1 < 2 ^ 64
  pub failed : summary.failed + 1 < 2 ^ 64
