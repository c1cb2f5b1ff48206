-- `../` at the start of a text.
use Rattle.std.proofs.Common.{◌≡◌, ℕ, zero, suc, ◌+◌, false, List, [], ◌∷◌, ◌++◌, length, Some, None, refl, ap, ◌∙◌, arith}
use Rattle.std.specs.Prelude.{◌==◌}
use Rattle.std.proofs.lemmas.Option.{cond_some}
use Rattle.handlebars_base.specs.Path.{ups}
use Rattle.handlebars_base.specs.PathReading.{is_up_mark, after_up, ups_at}
use Rattle.handlebars_base.proofs.OptionBinds.{cond_none}

-- one more, as a loop counts
pub ups_some : (n : ℕ) (t r : List ℕ) → after_up t ≡ Some r → ups_at n t ≡ ups_at (n + 1) r
unfolding after_up ups_at
ups_some n [] r e = absurd cc
ups_some n (a ∷ []) r e = absurd cc
ups_some n (a ∷ b ∷ []) r e = absurd cc
ups_some n (a ∷ b ∷ c ∷ t) r e =
    let g = cond_some (is_up_mark a b c) t r e in
    rw g.0 (ap (ups_at (n + 1)) g.1)

pub ups_none : (n : ℕ) (t : List ℕ) → after_up t ≡ None → ups_at n t ≡ (n, t)
unfolding after_up ups_at
ups_none n [] e = refl
ups_none n (a ∷ []) e = refl
ups_none n (a ∷ b ∷ []) e = refl
ups_none n (a ∷ b ∷ c ∷ t) e = rw (cond_none (is_up_mark a b c) t e) refl

pub after_up_length : (t r : List ℕ) → after_up t ≡ Some r → length r + 3 ≡ length t
unfolding after_up
after_up_length [] r e = absurd cc
after_up_length (a ∷ []) r e = absurd cc
after_up_length (a ∷ b ∷ []) r e = absurd cc
after_up_length (a ∷ b ∷ c ∷ t) r e =
    let g = cond_some (is_up_mark a b c) t r e in
    omega (arith, ap length g.1)

-- a text that doesn't begin with `.` has no `../` at its start
pub after_up_other : (x : ℕ) (t : List ℕ) → (x == 46) ≡ false → after_up (x ∷ t) ≡ None
unfolding after_up
after_up_other x [] h = refl
after_up_other x (y ∷ []) h = refl
after_up_other x (y ∷ z ∷ t) h = rw h refl

-- what a text spells is read
pub ups_again : (k n : ℕ) (rest : List ℕ) → after_up rest ≡ None → ups_at n (ups k ++ rest) ≡ (n + k, rest)
unfolding ups_at
ups_again zero n rest h = ups_none n rest h ∙ ap (λ (m : ℕ). (m, rest)) (omega arith)
ups_again (suc k) n rest h = ups_again k (n + 1) rest h ∙ ap (λ (m : ℕ). (m, rest)) (omega arith)
