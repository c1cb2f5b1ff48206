-- Where the bytes of a TOML text stand: in a string, in a comment or a header, or between them (https://toml.io/en/v1.1.0).
use Rattle.std.specs.Prelude.{ℕ, ◌+◌, ◌-◌, Bool, true, false, ◌&&◌, ◌||◌, ◌==◌, nat_lt, nat_le, if◌then◌else◌}
use Rattle.toml_parser.specs.Lexical.{line_feed, quote, apostrophe, hash, backslash, left_bracket, right_bracket, left_brace, right_brace, is_ws}
use Rattle.handlebars_data.specs.declared.toml_place.Inside.{Inside}
use Rattle.handlebars_data.specs.declared.toml_place.Inside.TheVariants.{Nothing, Line, Opened, OpenedTwice, OneLine, Lines}
use Rattle.handlebars_data.specs.declared.toml_place.Place.{Place}

abbrev pub starts_string : ℕ → Bool
starts_string b = b == quote || b == apostrophe

-- A comment goes up to the end of its line. A `[` that begins a line, outside of brackets, begins a header, which does so too.
abbrev pub starts_line : Place → ℕ → Bool
starts_line p b = b == hash || (b == left_bracket && p.begins_line && p.depth == 0)

-- White space, or a byte of a byte order mark: no other byte from 128 on stands outside of strings and comments. A line goes on
-- beginning after it.
abbrev pub is_skipped : ℕ → Bool
is_skipped b = is_ws b || nat_le 128 b

-- the place after a byte that stands in no string, comment or header
abbrev pub plain_step : Place → ℕ → Place
plain_step p b =
    if b == line_feed then record p { begins_line = true; inside = Nothing }
    else if starts_string b then record p { begins_line = false; inside = Opened b }
    else if starts_line p b then record p { begins_line = false; inside = Line }
    else if b == left_bracket || b == left_brace then record p { depth = p.depth + 1; begins_line = false; inside = Nothing }
    else if b == right_bracket || b == right_brace then record p { depth = p.depth - 1; begins_line = false; inside = Nothing }
    else if is_skipped b then record p { inside = Nothing }
    else record p { begins_line = false; inside = Nothing }

-- whether a byte escapes the one after it, in a string with this delimiter
abbrev pub escapes : ℕ → ℕ → Bool
escapes delimiter b = b == backslash && delimiter == quote

-- in a string of one line, which its delimiter ends
abbrev pub one_line_step : Place → ℕ → Bool → ℕ → Place
one_line_step p delimiter escaped b =
    if escaped then record p { inside = OneLine delimiter false }
    else if b == delimiter then record p { inside = Nothing }
    else record p { inside = OneLine delimiter (escapes delimiter b) }

-- In a string of several lines. Three delimiters in a row end it. One or two before these three are text.
abbrev pub lines_step : Place → ℕ → Bool → ℕ → ℕ → Place
lines_step p delimiter escaped run b =
    if escaped then record p { inside = Lines delimiter false 0 }
    else if b == delimiter then record p { inside = Lines delimiter false (if nat_lt run 3 then run + 1 else 3) }
    else if nat_lt run 3 then record p { inside = Lines delimiter (escapes delimiter b) 0 }
    else plain_step p b

-- the place after one more byte
abbrev pub step_in : Inside → Place → ℕ → Place
step_in Nothing p b = plain_step p b
step_in Line p b = if b == line_feed then record p { begins_line = true; inside = Nothing } else p
step_in (Opened c) p b = if b == c then record p { inside = OpenedTwice c } else one_line_step p c false b
step_in (OpenedTwice c) p b = if b == c then record p { inside = Lines c false 0 } else plain_step p b
step_in (OneLine c escaped) p b = one_line_step p c escaped b
step_in (Lines c escaped run) p b = lines_step p c escaped run b

abbrev pub step : Place → ℕ → Place
step p b = step_in p.inside p b

abbrev pub is_between : Inside → Bool
is_between Nothing = true
is_between inside = false

-- the start of a text
abbrev pub start : Place
start = record { depth = 0; begins_line = true; inside = Nothing }
