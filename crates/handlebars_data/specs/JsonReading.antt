-- How a value is read from tokens, one after another, and where the reading stops. For private clauses.
use Rattle.std.specs.Prelude.{ℕ, zero, suc, List, [], ◌∷◌, ◌++◌, length, Option, Some, None}
use Rattle.json.specs.Token.{Token}
use Rattle.json.specs.Json.{after_end_array, read_key}
use Rattle.serde_json.specs.Data.{Num, unsigned, negative, float, Data, null, boolean, number, string, array, object, Items, Members, no_members, put}
use Rattle.serde_json.specs.Read.{number_of}
use Rattle.serde_json.specs.View.{items_of}
use Rattle.handlebars_data.specs.declared.json_text.Numbers.{Numbers}
use Rattle.handlebars_data.specs.declared.json_text.Numbers.TheVariants.{Spelled, Refused}
use Rattle.handlebars_data.specs.declared.json_value.Fault.{Fault}
use Rattle.handlebars_data.specs.declared.json_value.Fault.TheVariants.{NotJson, TooDeep, NumberTooLarge, NumberNotInteger}

-- what was read, with the tokens after it, or why the reading stopped
pub data Reading (A : Type 0) : Type 0 where
  done : A → List Token → Reading A
  stopped : Fault → Reading A

abbrev pub reading_map : {A B : Type 0} → (A → B) → Reading A → Reading B
reading_map f (done a ts) = done (f a) ts
reading_map f (stopped why) = stopped why

abbrev pub and_then : {A B : Type 0} → (A → List Token → Reading B) → Reading A → Reading B
and_then f (done a ts) = f a ts
and_then f (stopped why) = stopped why

-- ---- numbers

abbrev pub float_reading : Numbers → List ℕ → List Token → Reading Data
float_reading Spelled s ts = done (string s) ts
float_reading Refused s ts = stopped NumberNotInteger

abbrev pub number_reading : Numbers → List ℕ → Option Num → List Token → Reading Data
number_reading numbers s None ts = stopped NumberTooLarge
number_reading numbers s (Some (unsigned n)) ts = done (number (unsigned n)) ts
number_reading numbers s (Some (negative z)) ts = done (number (negative z)) ts
number_reading numbers s (Some (float x)) ts = float_reading numbers s ts

-- ---- arrays and objects, of which a part was found

abbrev pub Reads : Type 0 → Type 0
Reads A = List Token → Reading A

abbrev pub items_step : Reads Data → (List Data → Reads Items) → List Data → List Token → Option (List Token) → Reading Items
items_step value more found ts (Some rest) = done (items_of found) rest
items_step value more found ts None = and_then (λ d rest. more (found ++ d ∷ []) rest) (value ts)

-- The number bounds the iterations. One more than the count of the tokens is enough.
unfoldable pub items_from : Reads Data → ℕ → List Data → Reads Items
items_from value zero found ts = stopped NotJson
items_from value (suc n) found ts = items_step value (items_from value n) found ts (after_end_array ts)

abbrev pub members_step : Reads Data → (Members → Reads Members) → Members → Option (Option (List ℕ) × List Token) → Reading Members
members_step value more found None = stopped NotJson
members_step value more found (Some (None, rest)) = done found rest
members_step value more found (Some (Some k, ts)) = and_then (λ d rest. more (put k d found) rest) (value ts)

unfoldable pub members_from : Reads Data → ℕ → Members → Reads Members
members_from value zero found ts = stopped NotJson
members_from value (suc n) found ts = members_step value (members_from value n) found (read_key ts)

-- ---- values

abbrev pub value_with : Numbers → Reads Items → Reads Members → Reads Data
value_with numbers items members [] = stopped NotJson
value_with numbers items members (Token.begin_object ∷ ts) = reading_map object (members ts)
value_with numbers items members (Token.end_object ∷ ts) = stopped NotJson
value_with numbers items members (Token.begin_array ∷ ts) = reading_map array (items ts)
value_with numbers items members (Token.end_array ∷ ts) = stopped NotJson
value_with numbers items members (Token.key s ∷ ts) = stopped NotJson
value_with numbers items members (Token.string s ∷ ts) = done (string s) ts
value_with numbers items members (Token.number s ∷ ts) = number_reading numbers s (number_of s) ts
value_with numbers items members (Token.boolean b ∷ ts) = done (boolean b) ts
value_with numbers items members (Token.null ∷ ts) = done null ts
value_with numbers items members (Token.bad ∷ ts) = stopped NotJson

abbrev pub all_items : Reads Data → Reads Items
all_items value ts = items_from value (suc (length ts)) [] ts

abbrev pub all_members : Reads Data → Reads Members
all_members value ts = members_from value (suc (length ts)) no_members ts

-- one value, in which arrays and objects nest no deeper than the number
unfoldable pub value_from : Numbers → ℕ → Reads Data
value_from numbers zero = value_with numbers (λ ts. stopped TooDeep) (λ ts. stopped TooDeep)
value_from numbers (suc depth) = value_with numbers (all_items (value_from numbers depth)) (all_members (value_from numbers depth))
