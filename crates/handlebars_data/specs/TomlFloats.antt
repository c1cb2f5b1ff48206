-- The floats of a TOML text, put in quotes, so that a reader of TOML gives their spelling.
use Rattle.std.specs.Prelude.{ℕ, Bool, true, false, not, ◌&&◌, ◌||◌, ◌==◌, if◌then◌else◌, List, [], ◌∷◌, ◌++◌, Some, None}
use Rattle.toml_parser.specs.Lexical.{Read, quote, equals, dot, first, is_word, skip_ws}
use Rattle.toml_parser.specs.Numbers.{unquoted}
use Rattle.toml_parser.specs.declared.scalar.Scalar.{Scalar}
use Rattle.toml_parser.specs.declared.scalar.Scalar.TheVariants.{Float}
use Rattle.handlebars_data.specs.TomlPlaces.{is_between, start, step}
use Rattle.handlebars_data.specs.declared.toml_place.Place.{Place}

abbrev pub is_float_scalar : Scalar → Bool
is_float_scalar (Float x) = true
is_float_scalar scalar = false

abbrev pub is_float_read : Read Scalar → Bool
is_float_read None = false
is_float_read (Some r) = is_float_scalar r.0

-- whether a word is a float (https://toml.io/en/v1.1.0#float), also `inf` or `nan`
abbrev pub is_float : List ℕ → Bool
is_float word = is_float_read (unquoted word)

-- Whether a word is a part of a key, by the text after it. `=` follows a key, and `.` a part of one.
abbrev pub ends_key : List ℕ → Bool
ends_key rest = first (skip_ws rest) == equals || first (skip_ws rest) == dot

-- whether a word is a value that is a float
abbrev pub is_float_value : List ℕ → List ℕ → Bool
is_float_value word rest = is_float word && not (ends_key rest)

abbrev pub in_quotes : List ℕ → List ℕ
in_quotes word = quote ∷ (word ++ quote ∷ [])

abbrev pub quoted_word : List ℕ → List ℕ → List ℕ
quoted_word word rest = if is_float_value word rest then in_quotes word else word

-- whether a byte at a place goes on with a word
abbrev pub in_word : Place → ℕ → Bool
in_word p b = is_between p.inside && is_word b

-- the text from a place on, after the word so far
unfoldable pub quote_floats : Place → List ℕ → List ℕ → List ℕ
quote_floats p word [] = quoted_word word []
quote_floats p word (b ∷ bs) =
    if in_word p b then quote_floats (step p b) (word ++ b ∷ []) bs
    else quoted_word word (b ∷ bs) ++ b ∷ quote_floats (step p b) [] bs

-- the text with each float in quotes
abbrev pub quoted_floats : List ℕ → List ℕ
quoted_floats text = quote_floats start [] text
