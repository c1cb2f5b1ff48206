-- Why a text is no data of JSON.
use Rattle.std.specs.Prelude.{◌≡◌, ◌<◌, ◌-◌, ℕ, suc, List, [], ◌∷◌, length, Contains, Float, None, Some}
use Rattle.json.specs.Token.{Token}
use Rattle.json.specs.Lex.{tokens}
use Rattle.serde_json.specs.Data.{float}
use Rattle.serde_json.specs.Read.{number_of, max_depth}
use Rattle.handlebars_data.specs.JsonText.{json_of}
use Rattle.handlebars_data.specs.declared.error.DataErrorKind.{DataErrorKind}
use Rattle.handlebars_data.specs.declared.error.DataErrorKind.TheVariants.{Expected, TooDeep, NumberTooLarge, NumberNotInteger, OutOfMemory}
use Rattle.handlebars_data.specs.declared.json_text.Numbers.{Numbers}
use Rattle.handlebars_data.specs.declared.json_text.Numbers.TheVariants.{Refused}
use Rattle.handlebars_data.specs.declared.json_value.Fault.{Fault}

-- how deep the tokens nest: how many arrays and objects are open at once, at most
abbrev pub nesting : List Token → ℕ
nesting [] = 0
nesting (Token.begin_object ∷ ts) = suc (nesting ts)
nesting (Token.end_object ∷ ts) = nesting ts - 1
nesting (Token.begin_array ∷ ts) = suc (nesting ts)
nesting (Token.end_array ∷ ts) = nesting ts - 1
nesting (Token.key s ∷ ts) = nesting ts
nesting (Token.string s ∷ ts) = nesting ts
nesting (Token.number s ∷ ts) = nesting ts
nesting (Token.boolean b ∷ ts) = nesting ts
nesting (Token.null ∷ ts) = nesting ts
nesting (Token.bad ∷ ts) = nesting ts

-- a number of the tokens that no finite float is near
abbrev pub HasNumberTooLarge : List Token → Type 0
HasNumberTooLarge ts = (s : List ℕ) × Contains ts (Token.number s) × (number_of s ≡ None)

-- a number of the tokens that is no integer of 64 bits
abbrev pub HasFloat : List Token → Type 0
HasFloat ts = (s : List ℕ) × (x : Float) × Contains ts (Token.number s) × (number_of s ≡ Some (float x))

-- What the reason of an error says of the text. No other reason is given.
abbrev pub Explains : Numbers → List ℕ → DataErrorKind → Type 0
Explains numbers text (Expected what) = json_of text ≡ None
Explains numbers text TooDeep = max_depth < nesting (tokens text)
Explains numbers text NumberTooLarge = HasNumberTooLarge (tokens text)
Explains numbers text NumberNotInteger = (numbers ≡ Refused) × HasFloat (tokens text)
Explains numbers text OutOfMemory = 0 < length text
Explains numbers text _ = ⊥

-- ---- for private clauses

-- what a fault says of the text
abbrev pub Shows : Numbers → List ℕ → Fault → Type 0
Shows numbers text Fault.NotJson = json_of text ≡ None
Shows numbers text Fault.TooDeep = max_depth < nesting (tokens text)
Shows numbers text Fault.NumberTooLarge = HasNumberTooLarge (tokens text)
Shows numbers text Fault.NumberNotInteger = (numbers ≡ Refused) × HasFloat (tokens text)
