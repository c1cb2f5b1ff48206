-- JSON lines (https://jsonlines.org): each line that isn't blank is a JSON text.
use Rattle.std.specs.Prelude.{◌≡◌, ◌⊎◌, IsUtf8, Result, Ok, Err, false, true, ℕ, zero, suc, ◌+◌, Bool, not, ◌||◌, ◌==◌, if◌then◌else◌, List, [], ◌∷◌, ◌++◌, length, All, Option, IsSome, Some, None, option_map, option_and_then, filter}
use Rattle.std.specs.List.{list_all, slice_split, before_first, after_first}
use Rattle.serde_json.specs.Data.{Data, array, Items, no_items, item}
use Rattle.serde_json.specs.View.{view}
use Rattle.serde_json.specs.declared.value.Value.{Value}
use Rattle.handlebars_data.specs.Counts.{counted}
use Rattle.handlebars_data.specs.JsonText.{text_data}
use Rattle.handlebars_data.specs.Errors.{kind_of}
use Rattle.handlebars_data.specs.Stopping.{stops_reading}
use Rattle.handlebars_data.specs.declared.error.DataError.{DataError}
use Rattle.handlebars_data.specs.declared.json_text.Numbers.{Numbers}

abbrev pub newline : ℕ
newline = 10

abbrev pub is_newline : ℕ → Bool
is_newline b = b == newline

-- white space of JSON (RFC 8259, section 2): a space, a tab, and the ends of lines
abbrev pub is_space : ℕ → Bool
is_space b = b == 32 || b == 9 || b == newline || b == 13

-- whether a line is blank
abbrev pub is_blank : List ℕ → Bool
is_blank line = list_all is_space line

-- The lines that aren't blank, without their newlines. A carriage return at the end of a line is white space of its JSON text.
abbrev pub texts_in : List ℕ → List (List ℕ)
texts_in bytes = filter (λ line. not (is_blank line)) (slice_split is_newline bytes)

-- the values that texts are read as, if each is one
abbrev pub values_of : (List ℕ → Option Data) → List (List ℕ) → Option Items
values_of read [] = Some no_items
values_of read (text ∷ texts) = option_and_then (λ d. option_map (item d) (values_of read texts)) (read text)

-- the array of the values of all lines
abbrev pub lines_data : Numbers → List ℕ → Option Data
lines_data numbers text = option_map array (values_of (text_data numbers) (texts_in text))

-- the values of a line: a blank line has none
abbrev pub line_values : (List ℕ → Option Data) → List ℕ → Option (List Data)
line_values read line = if is_blank line then Some [] else option_map (λ d. d ∷ []) (read line)

-- A text with a line that is neither blank nor a JSON text. It is the first such line, and its number is n: lines are counted from 1.
abbrev pub HasBadLine : Numbers → List ℕ → ℕ → Type 0
HasBadLine numbers text n =
    (before : List (List ℕ)) × (line : List ℕ) × (after : List (List ℕ)) × (slice_split is_newline text ≡ before ++ line ∷ after)
    × All (λ l. IsSome (line_values (text_data numbers) l)) before × (line_values (text_data numbers) line ≡ None) × (n ≡ counted (length before + 1))

-- ---- lines that are read one after another

-- the bytes below so many lines
abbrev pub below_lines : ℕ → List ℕ → List ℕ
below_lines zero bytes = bytes
below_lines (suc n) bytes = after_first is_newline (below_lines n bytes)

-- The bytes lose the next line that isn't blank, with the blank lines before it. Of the whole text `old` lines were taken before
-- these, and `new` with them.
abbrev pub TakesText : List ℕ → ℕ → ℕ → List ℕ → Option (List ℕ) → Type 0
TakesText bytes old new text left =
    (blanks : ℕ) × (rest : List ℕ) × (left ≡ Some rest) × (texts_in bytes ≡ text ∷ texts_in rest)
    × (text ≡ before_first is_newline (below_lines blanks bytes)) × (rest ≡ after_first is_newline (below_lines blanks bytes)) × (new ≡ counted (old + blanks + 1))

-- Whether there is a next line that isn't blank, and its text, by the bytes that are left.
abbrev pub IsNextText : List ℕ → ℕ → ℕ → List ℕ → Option (List ℕ) → Result Bool DataError → Type 0
IsNextText bytes old new text left (Ok false) = texts_in bytes ≡ []
IsNextText bytes old new text left (Ok true) = TakesText bytes old new text left
IsNextText bytes old new text left (Err e) = stops_reading (kind_of e) ≡ true

-- What the next value is, by the bytes that are left. A line that is refused is taken, too.
abbrev pub IsNextValue : Numbers → List ℕ → ℕ → ℕ → Option (List ℕ) → Result (Option Value) DataError → Type 0
IsNextValue numbers bytes old new left (Ok None) = texts_in bytes ≡ []
IsNextValue numbers bytes old new left (Ok (Some v)) = (text : List ℕ) × TakesText bytes old new text left × (text_data numbers text ≡ Some (view v))
IsNextValue numbers bytes old new left (Err e) =
    stops_reading (kind_of e) ≡ false → (text : List ℕ) × TakesText bytes old new text left × (¬ IsUtf8 text ⊎ (text_data numbers text ≡ None))
