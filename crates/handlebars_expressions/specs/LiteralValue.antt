-- The values of literals, by their shapes.
use Rattle.std.specs.Prelude.{◌&&◌, ◌==◌, if◌then◌else◌, [], ◌∷◌, ◌++◌, Option, None}
use Rattle.serde_json.specs.Data.{Data}
use Rattle.serde_json.specs.Read.{read as read_text}
use Rattle.handlebars_base.specs.Bytes.{Text, double_quote, single_quote, backslash}
use Rattle.handlebars_base.specs.Texts.{starts}
use Rattle.handlebars_expressions.specs.Literal.{Literal, quoted, single_quoted, number, word, empty, filled, spelled_literal, numbers_in_range}

-- the text with each `\'` made `'`
abbrev pub plain_singles : Text → Text
plain_singles [] = []
plain_singles (b ∷ t) =
    if (b == backslash) && starts (λ c. c == single_quote) t then plain_singles t else b ∷ plain_singles t

-- the text with each `"` made `\"`
abbrev pub escaped_doubles : Text → Text
escaped_doubles [] = []
escaped_doubles (b ∷ t) =
    if b == double_quote then backslash ∷ double_quote ∷ escaped_doubles t else b ∷ escaped_doubles t

-- the JSON of what is between single quotes
abbrev pub double_quoted : Text → Text
double_quoted t = double_quote ∷ (escaped_doubles (plain_singles t) ++ double_quote ∷ [])

-- the JSON that a literal is read as: a text in single quotes is converted to double quotes, and any other literal is as
-- written
abbrev pub json_of : Literal → Text
json_of (single_quoted t) = double_quoted t
json_of (quoted t) = spelled_literal (quoted t)
json_of (number t) = spelled_literal (number t)
json_of (word t) = spelled_literal (word t)
json_of (empty k w) = spelled_literal (empty k w)
json_of (filled k lead l w more) = spelled_literal (filled k lead l w more)

-- The value of a literal: what its JSON is read as, if its numbers are in range, and otherwise nothing. A number out of range
-- would be a float there, or rejected. The value alone doesn't show this: of a repeated key JSON uses the last value, so a
-- number before it is lost.
abbrev pub literal_value : Literal → Option Data
literal_value l = if numbers_in_range l then read_text (json_of l) else None
