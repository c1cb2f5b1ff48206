-- What a TOML text is as data (https://toml.io/en/v1.1.0).
use Rattle.std.specs.Prelude.{List, ℕ, Option, Some, None, nat_eq, option_map, option_and_then, take}
use Rattle.std.specs.List.{common_prefix_len}
use Rattle.toml_datetime.specs.Text.{datetime_text}
use Rattle.toml.specs.Data as toml
use Rattle.toml.specs.Parse.{parse_document}
use Rattle.serde_json.specs.Data.{Data, boolean, number, string, array, object, Items, no_items, item, Members, no_members, put}
use Rattle.serde_json.specs.Find.{of_integer}
use Rattle.handlebars_data.specs.Position.{position}
use Rattle.handlebars_data.specs.TomlFloats.{quoted_floats}
use Rattle.handlebars_data.specs.declared.json_text.Numbers.{Numbers}
use Rattle.handlebars_data.specs.declared.json_text.Numbers.TheVariants.{Spelled, Refused}

-- A table is an object, and a date or time is its text. A float has no data.
abbrev mutual
  pub value_data : toml.Data → Option Data
  value_data (toml.string s) = Some (string s)
  value_data (toml.integer z) = Some (number (of_integer z))
  value_data (toml.float x) = None
  value_data (toml.boolean b) = Some (boolean b)
  value_data (toml.datetime dt) = Some (string (datetime_text dt))
  value_data (toml.array ds) = option_map array (items_data ds)
  value_data (toml.table ms) = option_map object (members_data ms no_members)

  pub items_data : toml.Items → Option Items
  items_data toml.no_items = Some no_items
  items_data (toml.item d ds) = option_and_then (λ e. option_map (item e) (items_data ds)) (value_data d)

  -- the members go in one after another
  pub members_data : toml.Members → Members → Option Members
  members_data toml.no_members found = Some found
  members_data (toml.member k d ms) found = option_and_then (λ e. members_data ms (put k e found)) (value_data d)

-- the object of a table
abbrev pub table_data : toml.Members → Option Data
table_data ms = option_map object (members_data ms no_members)

-- The data of a document. If floats are spelled out, they are put in quotes first, so that each is the text of its spelling.
abbrev pub toml_data : Numbers → List ℕ → Option Data
toml_data Refused text = option_and_then table_data (parse_document text)
toml_data Spelled text = option_and_then (λ table. option_and_then table_data (parse_document (quoted_floats text))) (parse_document text)

-- the position of the first place in a text where another text differs
abbrev pub first_difference : List ℕ → List ℕ → ℕ × ℕ
first_difference text other = position (take (common_prefix_len nat_eq text other) text)

-- The position of the first float: where the text differs from its form with floats in quotes.
abbrev pub first_float : List ℕ → ℕ × ℕ
first_float text = first_difference text (quoted_floats text)
