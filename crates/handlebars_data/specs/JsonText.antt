-- What a JSON text is as data: what serde_json reads, but with each number as it is written.
use Rattle.std.specs.Prelude.{ℕ, List, Option, Some, None, option_map, option_and_then}
use Rattle.json.specs.Lex.{tokens}
use Rattle.json.specs.Json as json
use Rattle.serde_json.specs.Data.{Num, unsigned, negative, float, Data, null, boolean, number, string, array, object, Items, no_items, item, Members, no_members, put}
use Rattle.serde_json.specs.Read.{number_of, max_depth}
use Rattle.handlebars_data.specs.declared.json_text.Numbers.{Numbers}
use Rattle.handlebars_data.specs.declared.json_text.Numbers.TheVariants.{Spelled, Refused}

-- ---- numbers (RFC 8259, section 6)

-- An integer of 64 bits stays a number. Any other number becomes the text of its spelling.
abbrev pub spelled_as : List ℕ → Num → Data
spelled_as s (unsigned n) = number (unsigned n)
spelled_as s (negative z) = number (negative z)
spelled_as s (float x) = string s

-- an integer of 64 bits, and no other number
abbrev pub integer : Num → Option Data
integer (unsigned n) = Some (number (unsigned n))
integer (negative z) = Some (number (negative z))
integer (float x) = None

-- What a number is, by its spelling. One that no finite float is near is an error, as in serde_json.
abbrev pub number_data : Numbers → List ℕ → Option Data
number_data Spelled s = option_map (spelled_as s) (number_of s)
number_data Refused s = option_and_then integer (number_of s)

-- ---- values

-- The members go in one after another, so the last value of a key stays.
abbrev mutual
  pub data_of : Numbers → json.Json → Option Data
  data_of numbers json.null = Some null
  data_of numbers (json.boolean b) = Some (boolean b)
  data_of numbers (json.number s) = number_data numbers s
  data_of numbers (json.string s) = Some (string s)
  data_of numbers (json.array js) = option_map array (items_data numbers js)
  data_of numbers (json.object ms) = option_map object (members_data numbers ms no_members)

  pub items_data : Numbers → json.Items → Option Items
  items_data numbers json.no_items = Some no_items
  items_data numbers (json.item j js) = option_and_then (λ d. option_map (item d) (items_data numbers js)) (data_of numbers j)

  pub members_data : Numbers → json.Members → Members → Option Members
  members_data numbers json.no_members found = Some found
  members_data numbers (json.member k j ms) found = option_and_then (λ d. members_data numbers ms (put k d found)) (data_of numbers j)

-- ---- texts

-- the JSON value that a text is, if arrays and objects nest no deeper than 127
abbrev pub json_of : List ℕ → Option json.Json
json_of text = option_and_then (λ p. json.if_last p.0 p.1) (json.value max_depth (tokens text))

-- the data that a text is
abbrev pub text_data : Numbers → List ℕ → Option Data
text_data numbers text = option_and_then (data_of numbers) (json_of text)
