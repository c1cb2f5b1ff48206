-- The names in closing tags, which may be the names of expressions, too.
use Rattle.std.specs.Prelude.{ℕ, ◌+◌, Bool, if◌then◌else◌, ◌==◌, ◌||◌, [], nat_lt, length, take, drop}
use Rattle.std.specs.List.{prefix_len, position_or_len}
use Rattle.handlebars_base.specs.Bytes.{Text, slash, dot, at_sign, left_bracket, right_bracket, single_quote, is_symbol}
use Rattle.handlebars_base.specs.Texts.{starts}

abbrev pub is_close_symbol : ℕ → Bool
is_close_symbol b = is_symbol b || ((b == slash) || ((b == dot) || (b == at_sign)))

-- the text up to the byte and including it, if the byte comes after the first byte; and what follows
abbrev pub enclosed_at : ℕ → Text → Text × Text
enclosed_at c t =
    let n = position_or_len (λ b. b == c) (drop 1 t) in
    if nat_lt n (length (drop 1 t)) then (take (n + 2) t, drop (n + 2) t) else ([], t)

-- The close name at the start, possibly empty, and what follows it. It is in brackets, in single quotes, or a run of symbols,
-- `/`, `.` and `@`.
abbrev pub close_name_at : Text → Text × Text
close_name_at t =
    if starts (λ b. b == left_bracket) t then enclosed_at right_bracket t
    else (if starts (λ b. b == single_quote) t then enclosed_at single_quote t
    else (take (prefix_len is_close_symbol t) t, drop (prefix_len is_close_symbol t) t))

-- The whole text is a close name, possibly empty.
abbrev pub is_close_name : Text → Bool
is_close_name t = length (close_name_at t).1 == 0
