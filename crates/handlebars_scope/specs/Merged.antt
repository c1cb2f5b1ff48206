-- A value merged with the hash arguments of a partial call.
use Rattle.std.specs.Prelude.{ℕ, ◌+◌, List, [], ◌∷◌, decimal}
use Rattle.std.specs.Char.{encode_utf8}
use Rattle.std.specs.Str.{chars}
use Rattle.serde_json.specs.Data.{Data, null, boolean, number, string, array, object, Items, no_items, item, Members, no_members, put}
use Rattle.handlebars_base.specs.Bytes.{Text}

-- the given members and the items of an array by their positions, counted from a number
abbrev pub with_items : ℕ → Items → Members → Members
with_items i no_items ms = ms
with_items i (item d ds) ms = with_items (i + 1) ds (put (decimal i) d ms)

-- the same for the characters of a text
abbrev pub with_characters : ℕ → List ℕ → Members → Members
with_characters i [] ms = ms
with_characters i (c ∷ cs) ms = with_characters (i + 1) cs (put (decimal i) (string (encode_utf8 c)) ms)

-- the given members and the hash arguments in order; a later argument replaces an earlier one of the same key
abbrev pub with_hash : List (Text × Data) → Members → Members
with_hash [] ms = ms
with_hash (p ∷ ps) ms = with_hash ps (put p.0 p.1 ms)

-- the members that a value contributes: an object its own; an array its items and a text its characters, by position; any
-- other value none
abbrev pub members_in : Data → Members
members_in null = no_members
members_in (boolean b) = no_members
members_in (number n) = no_members
members_in (string s) = with_characters 0 (chars s) no_members
members_in (array ds) = with_items 0 ds no_members
members_in (object ms) = ms

-- Without hash arguments the value is unchanged. With some it is an object.
abbrev pub merge : Data → List (Text × Data) → Data
merge d [] = d
merge d (p ∷ ps) = object (with_hash (p ∷ ps) (members_in d))
