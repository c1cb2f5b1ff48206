-- Two operations on options that definitions use.
use Rattle.std.specs.Prelude.{Option, Some, None, option_and_then}

-- `f` applied to the value, if there is one
infixl 10 ◌>>=◌
abbrev pub ◌>>=◌ : {A B : Type 0} → Option A → (A → Option B) → Option B
o >>= f = option_and_then f o

-- `f` applied to the value, or `other` if there is none
abbrev pub with_or : {A B : Type 0} → Option A → (A → B) → B → B
with_or None f other = other
with_or (Some x) f other = f x
