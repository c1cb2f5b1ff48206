-- Laws of merged data.
use Rattle.std.specs.Prelude.{◌≡◌, ⊤, List, ℕ, Option, Some, None}
use Rattle.std.specs.Option.{option_map_or}
use Rattle.serde_json.specs.Data.{Data, Members, no_members, member}
use Rattle.serde_json.specs.Find.{get_member}
use Rattle.handlebars_data.specs.Merge.{merged, merged_members}

-- no key comes twice, as in every object that serde_json stores
abbrev pub HasKeysOnce : Members → Type 0
HasKeysOnce no_members = ⊤
HasKeysOnce (member k d ms) = (get_member k ms ≡ None) × HasKeysOnce ms

-- What stands at a key, by what stood there in the earlier object and in the later one.
abbrev pub merged_at : Option Data → Option Data → Option Data
merged_at earlier None = earlier
merged_at earlier (Some d) = Some (option_map_or (λ e. merged e d) earlier d)

-- Two objects are merged key by key. So no key of the later one is lost, a key that only the earlier one has keeps its value, and a
-- key of neither is absent.
abbrev pub MergesByKey : Type 0
MergesByKey = (earlier later : Members) → HasKeysOnce later → (k : List ℕ)
    → get_member k (merged_members earlier later) ≡ merged_at (get_member k earlier) (get_member k later)
