-- Runs of backslashes, and braces.
use Rattle.std.proofs.Common.{◌≡◌, ℕ, zero, suc, ◌+◌, true, false, [], ◌∷◌, ◌++◌, take, drop, refl, sym, ap, subst, ◌∙◌, arith, inl, inr}
use Rattle.std.specs.Prelude.{◌==◌, replicate}
use Rattle.std.specs.List.{prefix_len}
use Rattle.std.proofs.lemmas.Bool.{eqb-true, cases_Bool, and_parts}
use Rattle.handlebars_base.specs.Bytes.{Text, backslash, left_brace}
use Rattle.handlebars_lexer.specs.Text.{Braces, two_braces, four_braces, is_backslash, backslashes, starts_with_two, braces, before_braces}

pub take-backslashes : (t : Text) → take (backslashes t) t ≡ replicate (backslashes t) backslash
take-backslashes [] = refl
take-backslashes (b ∷ t) =
    let more : 1 + prefix_len is_backslash t ≡ suc (prefix_len is_backslash t) = omega arith in
    elim (cases_Bool (is_backslash b)) [
      | inl slash ↦ rw (slash, more) (ap (λ (c : ℕ). c ∷ take (backslashes t) t) (eqb-true b backslash slash) ∙ ap (λ (z : Text). backslash ∷ z) (take-backslashes t))
      | inr other ↦ rw other refl
    ]

-- no backslash follows a run

pub backslashes-run : (run : ℕ) (y : Text) → backslashes y ≡ 0 → backslashes (replicate run backslash ++ y) ≡ run
backslashes-run zero y stop = stop
backslashes-run (suc run) y stop = omega (arith, backslashes-run run y stop)

pub drop-run : (run : ℕ) (y : Text) → drop run (replicate run backslash ++ y) ≡ y
drop-run zero y = refl
drop-run (suc run) y = drop-run run y

pub before_braces-run : (w : Braces) (run : ℕ) (y : Text) → backslashes y ≡ 0 → before_braces w (replicate run backslash ++ y) ≡ braces w y
before_braces-run w run y stop = ap (λ (n : ℕ). braces w (drop n (replicate run backslash ++ y))) (backslashes-run run y stop) ∙ ap (braces w) (drop-run run y)

pub starts_with_two-shape : (t : Text) → starts_with_two t ≡ true → (r : Text) × (t ≡ left_brace ∷ left_brace ∷ r)
starts_with_two-shape [] h = absurd cc
starts_with_two-shape (a ∷ []) h = absurd cc
starts_with_two-shape (a ∷ b ∷ t) h =
    let p = and_parts (a == left_brace) (b == left_brace) h in
    let first : a ≡ left_brace = eqb-true a left_brace p.0 in
    let second : b ≡ left_brace = eqb-true b left_brace p.1 in
    (t, cc)

pub starts_with_two-braces : (w : Braces) (t : Text) → braces w t ≡ true → starts_with_two t ≡ true
starts_with_two-braces two_braces t h = h
starts_with_two-braces four_braces t h = (and_parts (starts_with_two t) (starts_with_two (drop 2 t)) h).0

pub braces-shape : (w : Braces) (t : Text) → braces w t ≡ true → (r : Text) × (t ≡ left_brace ∷ left_brace ∷ r)
braces-shape w t h = starts_with_two-shape t (starts_with_two-braces w t h)

pub braces-none : (w : Braces) → braces w [] ≡ false
braces-none two_braces = refl
braces-none four_braces = refl

pub backslashes-braces : (w : Braces) (y : Text) → braces w y ≡ true → backslashes y ≡ 0
backslashes-braces w y h = let two = braces-shape w y h in subst (λ (z : Text). backslashes z ≡ 0) (sym two.1) refl

pub backslashes-other : (b : ℕ) (t : Text) → is_backslash b ≡ false → backslashes (b ∷ t) ≡ 0
backslashes-other b t h = rw h refl

zero_one : (n : ℕ) → n ≡ 0 → n ≡ 1 → ⊥
zero_one n a b = omega arith

-- a single backslash before braces
pub escape_at : (w : Braces) (t : Text) → before_braces w t ≡ true → backslashes t ≡ 1 → (r : Text) × (t ≡ backslash ∷ left_brace ∷ left_brace ∷ r)
escape_at w [] marks one = absurd (zero_one 0 refl one)
escape_at w (b ∷ t) marks one =
    elim (cases_Bool (is_backslash b)) [
      | inl slash ↦
          let here : braces w (drop 1 (b ∷ t)) ≡ true = subst (λ (k : ℕ). braces w (drop k (b ∷ t)) ≡ true) one marks in
          let two = braces-shape w t here in
          (two.0, ap (λ (c : ℕ). c ∷ t) (eqb-true b backslash slash) ∙ ap (λ (z : Text). backslash ∷ z) two.1)
      | inr other ↦ absurd (zero_one (backslashes (b ∷ t)) (backslashes-other b t other) one)
    ]
