-- First bytes, marks and white space at the start of a text.
use Rattle.std.proofs.Common.{◌≡◌, ◌≢◌, ℕ, ◌<◌, Bool, true, false, [], ◌∷◌, ◌++◌, length, Some, None, refl, sym, ap, ◌∙◌, arith, inl, inr}
use Rattle.std.specs.Prelude.{◌==◌}
use Rattle.std.proofs.lemmas.Bool.{eqb-true, eqb-false, cases_Bool}
use Rattle.std.proofs.lemmas.Option.{cond_some}
use Rattle.handlebars_base.specs.Bytes.{Text, is_white, after_white}
use Rattle.handlebars_base.specs.Texts.{IsWhite, starts, after_byte}

-- ---- first bytes

-- a text that starts with one kind of byte doesn't start with another
pub starts-other : (p q : ℕ → Bool) (t : Text) → ((b : ℕ) → p b ≡ true → q b ≡ false) → starts p t ≡ true → starts q t ≡ false
starts-other p q [] h e = absurd cc
starts-other p q (b ∷ t) h e = h b e

pub starts-more : (p q : ℕ → Bool) (t : Text) → ((b : ℕ) → p b ≡ true → q b ≡ true) → starts p t ≡ true → starts q t ≡ true
starts-more p q [] h e = absurd cc
starts-more p q (b ∷ t) h e = h b e

pub starts-append : (p : ℕ → Bool) (t r : Text) → starts p t ≡ true → starts p (t ++ r) ≡ true
starts-append p [] r e = absurd cc
starts-append p (b ∷ t) r e = e

pub starts-length : (p : ℕ → Bool) (t : Text) → starts p t ≡ true → 0 < length t
starts-length p [] h = absurd cc
starts-length p (b ∷ t) h = omega arith

-- ---- marks

pub after_byte_takes : (c : ℕ) (t r : Text) → after_byte c t ≡ Some r → t ≡ c ∷ r
unfolding after_byte
after_byte_takes c [] r e = absurd cc
after_byte_takes c (x ∷ xs) r e =
    let g = cond_some (x == c) xs r e in
    let same : x ≡ c = eqb-true x c g.0 in
    let rest = g.1 in
    cc

pub after_byte_other : (c x : ℕ) (t : Text) → (x == c) ≡ false → after_byte c (x ∷ t) ≡ None
unfolding after_byte
after_byte_other c x t h = rw h refl

pub after_byte-not : (c : ℕ) (t : Text) → starts (λ b. b == c) t ≡ false → after_byte c t ≡ None
unfolding after_byte
after_byte-not c [] h = refl
after_byte-not c (b ∷ t) h = rw h refl

pub after_byte-same : (c : ℕ) (t : Text) → after_byte c (c ∷ t) ≡ Some t
unfolding after_byte
after_byte-same c t = elim (cases_Bool (c == c)) [
  | inl yea ↦ rw yea refl
  | inr nay ↦ absurd (eqb-false c c nay refl)
]

-- ---- white space

-- white space, and what follows it
pub record Skips (t : Text) : Type 0 where
  pub white : Text
  pub is : IsWhite white
  pub whole : t ≡ white ++ after_white t

on_white : (b : ℕ) (t : Text) → is_white b ≡ true → after_white (b ∷ t) ≡ after_white t
on_white b t h = rw h refl

on_other : (b : ℕ) (t : Text) → is_white b ≡ false → after_white (b ∷ t) ≡ b ∷ t
on_other b t h = rw h refl

pub after_white-skips : (t : Text) → Skips t
after_white-skips [] = record { white = []; is = tt; whole = refl }
after_white-skips (b ∷ t) = elim (cases_Bool (is_white b)) [
  | inl yea ↦
      let more = after_white-skips t in
      record {
        white = b ∷ more.white;
        is = (yea, more.is);
        whole =
            ap (λ (z : Text). b ∷ z) (more.whole ∙ ap (λ (z : Text). more.white ++ z) (sym (on_white b t yea)));
      }
  | inr nay ↦ record { white = []; is = tt; whole = sym (on_other b t nay) }
]

-- a text that doesn't start with white space
pub after_white-dark : (t : Text) → starts is_white t ≡ false → after_white t ≡ t
after_white-dark [] h = refl
after_white-dark (b ∷ t) h = rw h refl

pub after_white-append : (w t : Text) → IsWhite w → starts is_white t ≡ false → after_white (w ++ t) ≡ t
after_white-append [] t white h = after_white-dark t h
after_white-append (b ∷ w) t white h = rw white.0 (after_white-append w t white.1 h)

pub white_some : (t w r : Text) → starts is_white t ≡ true → t ≡ w ++ r → starts is_white r ≡ false → w ≢ []
white_some t [] r h e dark none = let same : starts is_white t ≡ starts is_white r = ap (starts is_white) e in absurd cc
white_some t (b ∷ w) r h e dark none = absurd cc

pub dark_after : (t : Text) → starts is_white (after_white t) ≡ false
dark_after [] = refl
dark_after (b ∷ t) = on (is_white b) refl (dark_after t)
  where
    on : (c : Bool) → is_white b ≡ c → starts is_white (after_white t) ≡ false → starts is_white (after_white (b ∷ t)) ≡ false
    on true is again = rw is again
    on false is again = rw is is
