-- Escaping of a byte, and of joined texts.
use Rattle.std.proofs.Common.{◌≡◌, ◌≢◌, ℕ, ◌<◌, ◌≤◌, ⊎_elim, [], ◌∷◌, ◌++◌, refl, sym, ap, ◌∙◌, subst, arith, append_assoc, None, Some, unwrap_or}
use Rattle.std.proofs.lemmas.Bool.Decides.{eqb_tells}
use Rattle.std.proofs.lemmas.Bool.{cases_lt, ne_eqb}
use Rattle.handlebars_base.specs.Escape.{entity_of, escaped_byte, escaped}
use Rattle.handlebars_base.specs.Bytes.{Text}

-- none of the seven bytes
pub record IsOther (b : ℕ) : Type 0 where
  pub less : b ≢ 60
  pub greater : b ≢ 62
  pub quote : b ≢ 34
  pub ampersand : b ≢ 38
  pub apostrophe : b ≢ 39
  pub back : b ≢ 96
  pub equals : b ≢ 61

decide : (P : Type 0) (b k : ℕ) → (b ≡ k → P) → (b ≢ k → P) → P
decide P b k here other = ⊎_elim (λ h. here h.1) (λ h. other h.1) (eqb_tells b k)

-- a property of every number, by cases: the seven bytes and the others
pub by_bytes : (P : ℕ → Type 0) → P 60 → P 62 → P 34 → P 38 → P 39 → P 96 → P 61 → ((b : ℕ) → IsOther b → P b) → (b : ℕ) → P b
by_bytes P less greater quote ampersand apostrophe back equals others b =
    let at = λ (k : ℕ) (p : P k) (e : b ≡ k). subst P (sym e) p in
    decide (P b) b 60 (at 60 less) (λ h1.
    decide (P b) b 62 (at 62 greater) (λ h2.
    decide (P b) b 34 (at 34 quote) (λ h3.
    decide (P b) b 38 (at 38 ampersand) (λ h4.
    decide (P b) b 39 (at 39 apostrophe) (λ h5.
    decide (P b) b 96 (at 96 back) (λ h6.
    decide (P b) b 61 (at 61 equals) (λ h7.
    others b (record { less = h1; greater = h2; quote = h3; ampersand = h4; apostrophe = h5; back = h6; equals = h7 }))))))))

-- any other byte has no entity
pub entity_of-other : (b : ℕ) → IsOther b → entity_of b ≡ None
entity_of-other b o = rw (
  ne_eqb b 60 o.less,
  ne_eqb b 62 o.greater,
  ne_eqb b 34 o.quote,
  ne_eqb b 38 o.ampersand,
  ne_eqb b 39 o.apostrophe,
  ne_eqb b 96 o.back,
  ne_eqb b 61 o.equals,
)

pub escaped_byte-other : (b : ℕ) → IsOther b → escaped_byte b ≡ b ∷ []
escaped_byte-other b o = ap (λ r. unwrap_or r (b ∷ [])) (entity_of-other b o)

entity_of-high : (b : ℕ) → 128 ≤ b → entity_of b ≡ None
entity_of-high b h = entity_of-other b record {
  less = λ e. omega arith;
  greater = λ e. omega arith;
  quote = λ e. omega arith;
  ampersand = λ e. omega arith;
  apostrophe = λ e. omega arith;
  back = λ e. omega arith;
  equals = λ e. omega arith;
}

-- a byte with an entity is an ASCII character
pub entity_is_ascii : (b : ℕ) (entity : Text) → entity_of b ≡ Some entity → b < 128
entity_is_ascii b entity e = ⊎_elim (λ h. h) (λ h. absurd (let none = entity_of-high b h in cc)) (cases_lt b 128)

pub escaped-append : (xs ys : Text) → escaped (xs ++ ys) ≡ escaped xs ++ escaped ys
unfolding escaped
escaped-append [] ys = refl
escaped-append (b ∷ bs) ys =
    ap (λ t. escaped_byte b ++ t) (escaped-append bs ys) ∙ sym (append_assoc (escaped_byte b) (escaped bs) (escaped ys))
