-- What the data of several sources are together.
use Rattle.std.specs.Prelude.{List, ℕ}
use Rattle.std.specs.Option.{option_map_or}
use Rattle.serde_json.specs.Data.{Data, null, object, Members, no_members, member, put}
use Rattle.serde_json.specs.Find.{get_member}

abbrev mutual
  -- Two objects are merged by key, at every depth. Of anything else, the later source counts.
  pub merged : Data → Data → Data
  merged (object ms) (object later) = object (merged_members ms later)
  merged base over = over

  -- Each member of the later object is put over the others. Where they have its key, the two values are merged.
  pub merged_members : Members → Members → Members
  merged_members ms no_members = ms
  merged_members ms (member k d later) = merged_members (put k (option_map_or (λ e. merged e d) (get_member k ms) d) ms) later

-- the members with a value put over them
abbrev pub with_merged : List ℕ → Data → Members → Members
with_merged k d ms = put k (option_map_or (λ e. merged e d) (get_member k ms) d) ms

-- the members with null in the place of a key's value
abbrev pub without_value : List ℕ → Members → Members
without_value k ms = option_map_or (λ e. put k null ms) (get_member k ms) ms
