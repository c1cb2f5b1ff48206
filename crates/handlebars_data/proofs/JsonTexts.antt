-- A whole text is one value and no token after it.
use Rattle.std.proofs.Common.{◌≡◌, ℕ, ◌<◌, List, [], ◌∷◌, length, Option, Some, None, option_and_then, refl, ap, ◌∙◌, subst, arith}
use Rattle.json.specs.Token.{Token}
use Rattle.json.specs.Lex.{lex, punctuate, tokens}
use Rattle.json.specs.Json as json
use Rattle.serde_json.specs.Data.{Data}
use Rattle.serde_json.specs.Read.{max_depth, converted}
use Rattle.handlebars_data.specs.JsonText.{data_of, json_of, text_data}
use Rattle.handlebars_data.specs.JsonReading.{Reading, done, stopped, value_from}
use Rattle.handlebars_data.specs.JsonFaults.{Shows}
use Rattle.handlebars_data.specs.declared.json_text.Numbers.{Numbers}
use Rattle.handlebars_data.specs.declared.json_value.Fault.{Fault}
use Rattle.handlebars_data.specs.declared.json_value.Fault.TheVariants.{NotJson, TooDeep, NumberTooLarge, NumberNotInteger}
use Rattle.handlebars_data.proofs.JsonAgreement.{Agrees, StopsFor, converted-Some, without_rest, value_from-agrees}
use Rattle.handlebars_data.proofs.JsonRests as rests

abbrev last : Option (json.Json × List Token) → Option json.Json
last o = option_and_then (λ p. json.if_last p.0 p.1) o

module _ (numbers : Numbers) where
  abbrev whole : Option (json.Json × List Token) → Option Data
  whole o = option_and_then (data_of numbers) (last o)

  whole-None : (o : Option (json.Json × List Token)) → converted (data_of numbers) o ≡ None → whole o ≡ None
  whole-None None e = refl
  whole-None (Some (j, [])) e = without_rest [] (data_of numbers j) e
  whole-None (Some (j, t ∷ ts)) e = refl

  whole-stopped : (o : Option (json.Json × List Token)) (why : Fault) → StopsFor (data_of numbers) o why → whole o ≡ None
  whole-stopped o NotJson e = ap whole e
  whole-stopped o TooDeep e = ap whole e
  whole-stopped o NumberTooLarge e = whole-None o e
  whole-stopped o NumberNotInteger e = whole-None o e

  module _ (text : List ℕ) where
    abbrev reading : Reading Data
    reading = value_from numbers max_depth (tokens text)

    agrees : (x : Reading Data) → reading ≡ x → Agrees (data_of numbers) (json.value max_depth (tokens text)) x
    agrees x e = subst (Agrees (data_of numbers) (json.value max_depth (tokens text))) e (value_from-agrees numbers max_depth (tokens text))

    pub text_data-done : (d : Data) → reading ≡ done d [] → text_data numbers text ≡ Some d
    text_data-done d e = let j = converted-Some (data_of numbers) (json.value max_depth (tokens text)) d [] (agrees (done d []) e) in ap whole j.1 ∙ j.2

    pub json_of-more : (d : Data) (t : Token) (ts : List Token) → reading ≡ done d (t ∷ ts) → json_of text ≡ None
    json_of-more d t ts e = let j = converted-Some (data_of numbers) (json.value max_depth (tokens text)) d (t ∷ ts) (agrees (done d (t ∷ ts)) e) in ap last j.1

    pub text_data-stopped : (why : Fault) → reading ≡ stopped why → text_data numbers text ≡ None
    text_data-stopped why e = whole-stopped (json.value max_depth (tokens text)) why (agrees (stopped why) e)

    shows : (why : Fault) → StopsFor (data_of numbers) (json.value max_depth (tokens text)) why → rests.Shows numbers max_depth (tokens text) why → Shows numbers text why
    shows NotJson e h = ap last e
    shows TooDeep e h = h
    shows NumberTooLarge e h = h
    shows NumberNotInteger e h = h

    pub Shows-stopped : (why : Fault) → reading ≡ stopped why → Shows numbers text why
    Shows-stopped why e = shows why (agrees (stopped why) e) (subst (rests.Leaves numbers max_depth (tokens text)) e (rests.value_from-leaves numbers max_depth (tokens text)))

-- a text with a token has a byte
pub some_text : (text : List ℕ) → 0 < length (tokens text) → 0 < length text
unfolding lex punctuate
some_text [] h = h
some_text (b ∷ bs) h = omega arith
