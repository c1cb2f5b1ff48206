-- How each kind of items goes on.
use Rattle.std.specs.Prelude.{◌≡◌, ◌<◌, ◌≤◌, ◌+◌, ◌^◌, ℕ, Bool, true, false, IsSome, List, Option, Some, None, length, map, option_map, slice_get, string_bytes}
use Rattle.std.specs.declared.alloc.Global.{Global}
use Rattle.serde_json.specs.Data.{Data}
use Rattle.serde_json.specs.View.{view}
use Rattle.serde_json.specs.Written.{has_float}
use Rattle.handlebars_base.specs.Bytes.{Text}
use Rattle.handlebars_scope.specs.Contexts.{data_of}
use Rattle.hb.specs.declared.items.list.ListItems.{ListItems}
use Rattle.hb.specs.declared.items.path.PathItems.{PathItems}

-- ---- the members of a list that is held whole

-- the data of the members
abbrev pub members_in : ListItems → List Data
members_in s = map view s.list.now

-- the data of the current item
abbrev pub current_in : ListItems → Option Data
current_in s = option_map data_of s.current

-- The list stays, and the next item is the first one.
pub record RestartsList (old : ListItems) (ok : Bool) (new : ListItems) : Type 0 where
  pub succeeds : ok ≡ true
  pub members : members_in new ≡ members_in old
  pub next : new.next ≡ 0
  pub current : current_in new ≡ None

-- The next member becomes the current item, if there is one. It fails only if the member has a number outside the range.
abbrev pub AdvancesTo : ListItems → Option Bool → ListItems → Type 0
AdvancesTo old (Some true) new = IsSome (current_in new) × (current_in new ≡ slice_get (members_in old) old.next) × (new.next ≡ old.next + 1)
AdvancesTo old (Some false) new = (slice_get (members_in old) old.next ≡ None) × (current_in new ≡ None) × (new.next ≡ old.next)
AdvancesTo old None new = (d : Data) × (slice_get (members_in old) old.next ≡ Some d) × (has_float d ≡ true)

abbrev pub AdvancesList : ListItems → Option Bool → ListItems → Type 0
AdvancesList old answer new = (members_in new ≡ members_in old) × AdvancesTo old answer new

-- The next member is passed over, if there is one.
abbrev pub SkipsTo : ListItems → Option Bool → ListItems → Type 0
SkipsTo old (Some true) new = (old.next < length (members_in old)) × (new.next ≡ old.next + 1)
SkipsTo old (Some false) new = (length (members_in old) ≤ old.next) × (new.next ≡ old.next)
SkipsTo old None new = ⊥

abbrev pub SkipsList : ListItems → Option Bool → ListItems → Type 0
SkipsList old answer new = (members_in new ≡ members_in old) × (current_in new ≡ None) × SkipsTo old answer new

-- ---- the members of a list in the data

-- the names that lead to the list
abbrev pub names_in : PathItems → List Text
names_in s = map string_bytes s.names.now

-- The data and the list stay.
pub record SameList (old new : PathItems) : Type 0 where
  pub over : data_of new.«data».now ≡ data_of old.«data».now
  pub names : names_in new ≡ names_in old
  pub count : new.count ≡ old.count

abbrev pub RestartsPath : PathItems → Bool → PathItems → Type 0
RestartsPath old ok new = (ok ≡ true) × SameList old new × (new.number ≡ 0)

-- The number of the current item is one more, up to the number of members.
abbrev pub CountsTo : PathItems → Option Bool → PathItems → Type 0
CountsTo old (Some true) new = (old.number < old.count) × (new.number ≡ old.number + 1)
CountsTo old (Some false) new = (old.count ≤ old.number) × (new.number ≡ old.number)
CountsTo old None new = ⊥

abbrev pub AdvancesPath : PathItems → Option Bool → PathItems → Type 0
AdvancesPath old answer new = SameList old new × CountsTo old answer new

-- ---- items that are read one at a time

-- Of what is read nothing is known: there is a current item if the advance says so, and its index is one more.
abbrev pub ReadsItem : ℕ → Option Bool → ℕ → Option Data → Type 0
ReadsItem before (Some true) after current = IsSome current × (before + 1 < 2 ^ 64 → after ≡ before + 1)
ReadsItem before (Some false) after current = current ≡ None
ReadsItem before None after current = Unit {0}

-- Of what is passed over nothing is known either.
abbrev pub SkipsItem : ℕ → Option Bool → ℕ → Option Data → Type 0
SkipsItem before (Some true) after current = (current ≡ None) × (before + 1 < 2 ^ 64 → after ≡ before + 1)
SkipsItem before (Some false) after current = current ≡ None
SkipsItem before None after current = Unit {0}
