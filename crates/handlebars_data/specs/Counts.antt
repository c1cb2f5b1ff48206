-- Counts of rows and of lines.
use Rattle.std.specs.Prelude.{ℕ, ◌^◌, ◌-◌, min}

-- a count, as far as 64 bits hold it
abbrev pub counted : ℕ → ℕ
counted n = min n (2 ^ 64 - 1)
