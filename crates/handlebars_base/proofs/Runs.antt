-- Runs at the start of a text: of a kind of byte, and of symbols.
use Rattle.std.proofs.Common.{◌≡◌, ◌≢◌, ℕ, suc, ◌+◌, ◌<◌, Bool, true, false, [], ◌∷◌, ◌++◌, length, get_or, take, drop, refl, sym, ap, arith, inl, inr}
use Rattle.std.specs.Prelude.{◌==◌}
use Rattle.std.specs.List.{prefix_len, AllByRecursion}
use Rattle.std.specs.Str.{IsCharBoundary}
use Rattle.std.proofs.lemmas.Bool.{eqb-false, cases_Bool}
use Rattle.std.proofs.lemmas.List.{take_at, drop_at, length-take}
use Rattle.std.proofs.lemmas.List.Sums.{prefix_len-le-length, prefix_len_stops}
use Rattle.handlebars_base.specs.Bytes.{Text, is_symbol}
use Rattle.handlebars_base.specs.Texts.{starts, symbols_of, after_symbols}
use Rattle.handlebars_base.proofs.Bytes.{no_symbol_ascii}

-- ---- of a kind of byte

-- each byte of a run is of the kind
pub prefix_pass : (p : ℕ → Bool) (t : Text) → AllByRecursion (λ b. p b ≡ true) (take (prefix_len p t) t)
prefix_pass p [] = tt
prefix_pass p (x ∷ xs) =
    let more : 1 + prefix_len p xs ≡ suc (prefix_len p xs) = omega arith in
    elim (cases_Bool (p x)) [
      | inl passes ↦ rw (passes, more) (passes, prefix_pass p xs)
      | inr fails ↦ rw fails tt
    ]

-- a run ends where what follows doesn't continue it
pub prefix_again : (p : ℕ → Bool) (n rest : Text) → AllByRecursion (λ b. p b ≡ true) n → prefix_len p rest ≡ 0 →
    prefix_len p (n ++ rest) ≡ length n
prefix_again p [] rest all stop = stop
prefix_again p (x ∷ xs) rest all stop = rw all.0 (omega (arith, prefix_again p xs rest all.1 stop))

-- the run is what is taken, and the rest is left
pub run-prefix : (p : ℕ → Bool) (n rest : Text) → AllByRecursion (λ b. p b ≡ true) n → prefix_len p rest ≡ 0 → take (prefix_len p (n ++ rest)) (n ++ rest) ≡ n
run-prefix p n rest all stop = take_at n rest _ (sym (prefix_again p n rest all stop))

pub run-rest : (p : ℕ → Bool) (n rest : Text) → AllByRecursion (λ b. p b ≡ true) n → prefix_len p rest ≡ 0 → drop (prefix_len p (n ++ rest)) (n ++ rest) ≡ rest
run-rest p n rest all stop = drop_at n rest _ (sym (prefix_again p n rest all stop))

-- a text that starts with no byte of the kind has no run
pub prefix_len-none : (p : ℕ → Bool) (t : Text) → starts p t ≡ false → prefix_len p t ≡ 0
prefix_len-none p [] h = refl
prefix_len-none p (b ∷ t) h = rw h refl

-- ---- of symbols

-- a text may be split after its symbols
pub symbols_boundary : (t : Text) → IsCharBoundary t (prefix_len is_symbol t)
symbols_boundary t = (
  prefix_len-le-length is_symbol t,
  λ lt le.
      let small : get_or t (prefix_len is_symbol t) 0 < 128 = no_symbol_ascii _ (prefix_len_stops is_symbol t 0 lt) in
      absurd (omega arith),
)

-- if there are some, they aren't the empty text
pub symbols_some : (t : Text) → (prefix_len is_symbol t == 0) ≡ false → symbols_of t ≢ []
symbols_some t some none =
    eqb-false (prefix_len is_symbol t) 0 some
    (omega (arith, ap length none, length-take (prefix_len is_symbol t) t, prefix_len-le-length is_symbol t))

pub on_symbol : (x : ℕ) (t : Text) → is_symbol x ≡ true → after_symbols (x ∷ t) ≡ after_symbols t
on_symbol x t h =
    let long : 1 + prefix_len is_symbol t ≡ suc (prefix_len is_symbol t) = omega arith in
    rw (h, long) refl

pub on_mark : (x : ℕ) (t : Text) → is_symbol x ≡ false → after_symbols (x ∷ t) ≡ x ∷ t
on_mark x t h = rw h refl

pub after_symbols-stops : (t : Text) → starts is_symbol (after_symbols t) ≡ false
after_symbols-stops [] = refl
after_symbols-stops (b ∷ t) = elim (cases_Bool (is_symbol b)) [
  | inl is ↦ rw (on_symbol b t is) (after_symbols-stops t)
  | inr mark ↦ rw (on_mark b t mark) mark
]
