-- Bytes as HTML and URLs class them.
use Rattle.std.specs.Prelude.{ℕ, ◌+◌, Bool, false, ◌&&◌, ◌||◌, ◌==◌, nat_le, if◌then◌else◌, List, [], ◌∷◌}
use Rattle.std.specs.Str.{bytes_eq}
use Rattle.handlebars_base.specs.Bytes.{Text, tab, newline, carriage_return, space, slash, backslash}

abbrev pub form_feed : ℕ
form_feed = 12

abbrev pub exclamation_mark : ℕ
exclamation_mark = 33

abbrev pub number_sign : ℕ
number_sign = 35

abbrev pub question_mark : ℕ
question_mark = 63

-- what separates names in a tag (HTML 13.2.5.32); a carriage return is read as a newline (13.2.3.5)
abbrev pub is_html_white : ℕ → Bool
is_html_white b = (b == space) || ((b == newline) || ((b == tab) || ((b == carriage_return) || (b == form_feed))))

abbrev pub is_upper : ℕ → Bool
is_upper b = nat_le 65 b && nat_le b 90

-- the byte in lowercase, if it is a letter of ASCII
abbrev pub lower : ℕ → ℕ
lower b = if is_upper b then b + 32 else b

abbrev pub is_letter : ℕ → Bool
is_letter b = nat_le 97 (lower b) && nat_le (lower b) 122

-- what URL parsers remove at the beginning of an address (URL 4.4: C0 controls and spaces)
abbrev pub is_blank_or_control : ℕ → Bool
is_blank_or_control b = nat_le b space

-- In addresses of these schemes a backslash is read as a slash (URL 4.4, relative state).
abbrev pub is_any_slash : ℕ → Bool
is_any_slash b = (b == slash) || (b == backslash)

-- where the query or the fragment of an address begins
abbrev pub begins_query : ℕ → Bool
begins_query b = (b == question_mark) || (b == number_sign)

-- ---- texts

abbrev pub is_one_of : List Text → Text → Bool
is_one_of [] n = false
is_one_of (x ∷ xs) n = bytes_eq x n || is_one_of xs n
