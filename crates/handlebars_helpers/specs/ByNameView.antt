-- What is registered under names.
use Rattle.std.specs.Prelude.{◌≡◌, Option, cond}
use Rattle.std.specs.HashMap.{get_by_text}
use Rattle.std.specs.Str.{bytes_eq}
use Rattle.handlebars_base.specs.Bytes.{Text}
use Rattle.handlebars_helpers.specs.declared.by_name.ByName.{ByName}

module _ {E : Type 0} where
  -- the entry under a name, if there is one
  abbrev pub entry_at : ByName E → Text → Option E
  entry_at entries name = get_by_text entries.by_name name

  -- The entry, or none, is now under the name. Other names are unchanged.
  abbrev pub PutsEntry : ByName E → ByName E → Text → Option E → Type 0
  PutsEntry old new name entry = (other : Text) → entry_at new other ≡ cond (bytes_eq name other) entry (entry_at old other)

  -- All names are unchanged.
  abbrev pub HasSame : ByName E → ByName E → Type 0
  HasSame old new = (other : Text) → entry_at new other ≡ entry_at old other
