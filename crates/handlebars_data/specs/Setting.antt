-- What a word of a command line sets: `KEY=VALUE` sets a text, and `KEY:=JSON` the value of a JSON text.
use Rattle.std.specs.Prelude.{◌≡◌, ⊤, ℕ, ◌-◌, Bool, ◌==◌, nat_lt, if◌then◌else◌, List, length, take, slice_index, Option, Some, None}
use Rattle.std.specs.List.{position_or_len, before_first, after_first}
use Rattle.serde_json.specs.Data.{Data, string, object, Members, put}
use Rattle.handlebars_data.specs.Errors.{IsMemory}
use Rattle.handlebars_data.specs.JsonText.{text_data}
use Rattle.handlebars_data.specs.declared.error.DataError.{DataError}
use Rattle.handlebars_data.specs.declared.json_text.Numbers.{Numbers}
use Rattle.handlebars_data.specs.declared.setting.SettingError.{SettingError}
use Rattle.handlebars_data.specs.declared.setting.SettingError.TheVariants.{NoEquals, EmptyKey, NotJson, NotAnObject, OutOfMemory}

abbrev pub colon : ℕ
colon = 58

abbrev pub equals_sign : ℕ
equals_sign = 61

abbrev pub is_equals_sign : ℕ → Bool
is_equals_sign b = b == equals_sign

-- a member, or why the word sets none
pub data Setting : Type 0 where
  sets : List ℕ → Data → Setting
  no_equals : Setting
  empty_key : Setting
  not_json : Setting

-- a value under a key
abbrev pub under : List ℕ → Data → Setting
under key d = if length key == 0 then empty_key else sets key d

-- the value of a JSON text under a key
abbrev pub json_under : List ℕ → Option Data → Setting
json_under key (Some d) = under key d
json_under key None = if length key == 0 then empty_key else not_json

abbrev pub ends_with_colon : List ℕ → Bool
ends_with_colon text = slice_index text (length text - 1) == colon

-- What stands before the first `=` is the key. If it ends with `:`, the colon belongs to the sign, and a JSON text follows.
abbrev pub setting_of : Numbers → List ℕ → List ℕ → Setting
setting_of numbers before after =
    if ends_with_colon before then json_under (take (length before - 1) before) (text_data numbers after)
    else under before (string after)

abbrev pub setting : Numbers → List ℕ → Setting
setting numbers word =
    if nat_lt (position_or_len is_equals_sign word) (length word)
    then setting_of numbers (before_first is_equals_sign word) (after_first is_equals_sign word)
    else no_equals

-- the object with this member
abbrev pub with_member : List ℕ → Data → Members → Data
with_member key d ms = object (put key d ms)

-- what an error says of the setting; out of memory says nothing
abbrev pub IsFaultOf : Setting → SettingError → Type 0
IsFaultOf s NoEquals = s ≡ no_equals
IsFaultOf s EmptyKey = s ≡ empty_key
IsFaultOf s (NotJson e) = s ≡ not_json
IsFaultOf s NotAnObject = ⊥
IsFaultOf s OutOfMemory = ⊤

-- an error of the JSON text, or of memory
abbrev pub IsCausedBy : DataError → SettingError → Type 0
IsCausedBy cause e = (IsMemory cause → e ≡ OutOfMemory) × (¬ IsMemory cause → e ≡ NotJson cause)
