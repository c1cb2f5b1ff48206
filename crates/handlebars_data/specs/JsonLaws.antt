-- Laws of what a JSON text is as data.
use Rattle.std.specs.Prelude.{◌≡◌, ◌↔◌, ℕ, ℤ, List, Bool, false, Float, Some, None}
use Rattle.serde_json.specs.Data.{unsigned, negative, float, Data, null, boolean, number, string, array, object, Items, no_items, item, Members, no_members, member}
use Rattle.serde_json.specs.Read.{number_of, read}
use Rattle.serde_json.specs.Written.{has_float}
use Rattle.handlebars_data.specs.JsonText.{text_data}
use Rattle.handlebars_data.specs.declared.json_text.Numbers.{Numbers}
use Rattle.handlebars_data.specs.declared.json_text.Numbers.TheVariants.{Spelled, Refused}

-- What serde_json reads, and what is read here: the same, but a float there is a text here that spells it.
mutual
  pub data IsSpelledOut : Data → Data → Type 0 where
    same_null : IsSpelledOut null null
    same_boolean : (b : Bool) → IsSpelledOut (boolean b) (boolean b)
    same_unsigned : (n : ℕ) → IsSpelledOut (number (unsigned n)) (number (unsigned n))
    same_negative : (z : ℤ) → IsSpelledOut (number (negative z)) (number (negative z))
    spelled_float : (x : Float) (s : List ℕ) → number_of s ≡ Some (float x) → IsSpelledOut (number (float x)) (string s)
    same_string : (s : List ℕ) → IsSpelledOut (string s) (string s)
    each_item : (ds es : Items) → AreSpelledOut ds es → IsSpelledOut (array ds) (array es)
    each_member : (ms ns : Members) → AreMembersSpelledOut ms ns → IsSpelledOut (object ms) (object ns)

  pub data AreSpelledOut : Items → Items → Type 0 where
    no_more_items : AreSpelledOut no_items no_items
    next_item : (d e : Data) (ds es : Items) → IsSpelledOut d e → AreSpelledOut ds es → AreSpelledOut (item d ds) (item e es)

  pub data AreMembersSpelledOut : Members → Members → Type 0 where
    no_more_members : AreMembersSpelledOut no_members no_members
    next_member : (k : List ℕ) (d e : Data) (ms ns : Members) → IsSpelledOut d e → AreMembersSpelledOut ms ns → AreMembersSpelledOut (member k d ms) (member k e ns)

-- A text is refused here where serde_json refuses it, and nowhere else.
abbrev pub RefusesAsSerdeJson : Type 0
RefusesAsSerdeJson = (text : List ℕ) → (text_data Spelled text ≡ None) ↔ (read text ≡ None)

-- A text that is read is the data that serde_json reads, with its floats as they are written.
abbrev pub SpellsOutNumbers : Type 0
SpellsOutNumbers = (text : List ℕ) (d e : Data) → read text ≡ Some d → text_data Spelled text ≡ Some e → IsSpelledOut d e

-- If other numbers are refused, what is read is what serde_json reads, and the same with their spelling.
abbrev pub RefusingChangesNothing : Type 0
RefusingChangesNothing = (text : List ℕ) (d : Data) → text_data Refused text ≡ Some d → (read text ≡ Some d) × (text_data Spelled text ≡ Some d)

-- What is read has no float.
abbrev pub HasNoFloat : Type 0
HasNoFloat = (numbers : Numbers) (text : List ℕ) (d : Data) → text_data numbers text ≡ Some d → has_float d ≡ false
