-- The position in a text in UTF-8: line and column, both counted from 1, the column in characters.
use Rattle.std.specs.Prelude.{ℕ, ◌+◌, ◌==◌, ◌&&◌, Bool, nat_lt, nat_le, if◌then◌else◌, List, fold}

abbrev pub line_feed : ℕ
line_feed = 10

-- The bytes from 128 to 191 continue a character, and any other byte begins one.
abbrev pub continues_character : ℕ → Bool
continues_character b = nat_le 128 b && nat_lt b 192

abbrev pub origin : ℕ × ℕ
origin = (1, 1)

-- the position after one byte: a line feed begins a line
abbrev pub after_byte : ℕ × ℕ → ℕ → ℕ × ℕ
after_byte p b =
    if b == line_feed then (p.0 + 1, 1)
    else (if continues_character b then p else (p.0, p.1 + 1))

-- the position after a prefix of a text
abbrev pub position : List ℕ → ℕ × ℕ
position before = fold after_byte origin before
