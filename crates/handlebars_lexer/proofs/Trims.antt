-- Blanks and line breaks.
use Rattle.std.proofs.Common.{◌≡◌, ℕ, ◌<◌, ◌≤◌, Bool, true, false, length, get_or, [], ◌∷◌, refl, ap, arith, inl, inr}
use Rattle.std.specs.Prelude.{◌==◌, ◌||◌}
use Rattle.std.specs.Str.{IsCharBoundary}
use Rattle.std.proofs.lemmas.Bool.{or_cases, eqb-true, cases_Bool}
use Rattle.handlebars_base.specs.Bytes.{Text, space, tab}
use Rattle.handlebars_base.specs.Texts.{starts}
use Rattle.handlebars_lexer.specs.Trim.{is_blank, is_break, breaks, after_blanks}

pub is_blank-ascii : (b : ℕ) → is_blank b ≡ true → b < 128
is_blank-ascii b h = elim (or_cases (b == space) (b == tab) h) [
  | inl is ↦ let e = eqb-true b space is in omega arith
  | inr is ↦ let e = eqb-true b tab is in omega arith
]

-- a text may be split before a blank, and at its end
pub is_blank-boundary : (t : Text) (n : ℕ) → n ≤ length t → (n < length t → is_blank (get_or t n 0) ≡ true) → IsCharBoundary t n
is_blank-boundary t n within blank = (within, λ lt le. let low = is_blank-ascii (get_or t n 0) (blank lt) in absurd (omega arith))

pub no_break : (b : ℕ) → is_blank b ≡ true → is_break b ≡ false
no_break b h = elim (or_cases (b == space) (b == tab) h) [
  | inl is ↦ ap is_break (eqb-true b space is)
  | inr is ↦ ap is_break (eqb-true b tab is)
]

pub or_false : (p : Bool) → (p || false) ≡ p
or_false true = refl
or_false false = refl

pub breaks-after : (t : Text) → breaks t ≡ starts is_break (after_blanks t)
breaks-after [] = refl
breaks-after (b ∷ t) = elim (cases_Bool (is_blank b)) [
  | inl blank ↦ rw (no_break b blank, blank) (breaks-after t)
  | inr dark ↦ rw dark (or_false (is_break b))
]
