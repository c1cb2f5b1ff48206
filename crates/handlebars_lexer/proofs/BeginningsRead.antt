-- What the table gives for the bytes after the braces: one lemma for each branch of the code.
use Rattle.std.proofs.Common.{◌≡◌, ◌≢◌, ℕ, Bool, true, false, [], ◌∷◌, ◌++◌, List, Option, Some, None, drop, refl, sym, ap, ◌∙◌, codes, ne_eqb}
use Rattle.std.specs.Char.{is_ascii}
use Rattle.std.proofs.lemmas.Bool.{true≢false}
use Rattle.handlebars_base.specs.Bytes.{Text, slash, left_brace, after_white}
use Rattle.handlebars_base.specs.Texts.{starts, after_byte}
use Rattle.handlebars_base.specs.Optional.{with_or}
use Rattle.handlebars_expressions.specs.Expression.{tilde}
use Rattle.handlebars_lexer.specs.Kind.{beginning, tilde_at, escaped_kind, html_kind, html_sign_kind, block_kind, close_kind, inverse_kind, raw_kind, raw_close_kind, decorator_kind, decorator_block_kind, partial_kind, partial_block_kind, comment_kind, Row, rows, first_of, beginning_of}
use Rattle.handlebars_lexer.specs.KindView.{signed_by}

-- the rows of two braces without the mark of a comment
abbrev pub two_rows : List Row
two_rows = drop 4 rows

-- those of them with an optional tilde
abbrev pub sign_rows : List Row
sign_rows = drop 5 rows

-- those of them with no mark
abbrev pub word_rows : List Row
word_rows = drop 13 rows

-- ---- bytes

-- no byte from 128 on is a mark
beyond : (b c : ℕ) → is_ascii c ≡ true → is_ascii b ≡ false → b ≢ c
beyond b c small large same = let both : false ≡ true = sym large ∙ ap is_ascii same ∙ small in absurd cc

-- ---- braces

pub none-brace : (t : Text) → after_byte left_brace t ≡ None → beginning_of t ≡ None
unfolding beginning_of
none-brace t e = rw e refl

pub one-brace : (t : Text) → after_byte left_brace t ≡ None → beginning_of (left_brace ∷ t) ≡ None
unfolding beginning_of after_byte
one-brace t e = rw e refl

pub two-comment : (t : Text) → beginning_of (codes "{{!" ++ t) ≡ Some (beginning comment_kind false t)
unfolding beginning_of after_byte
two-comment t = refl

pub two-byte : (b : ℕ) (t : Text) → b ≢ left_brace → b ≢ 33 → beginning_of (codes "{{" ++ b ∷ t) ≡ first_of two_rows (codes "{{" ++ b ∷ t)
unfolding beginning_of after_byte
two-byte b t n123 n33 = rw (ne_eqb b left_brace n123, ne_eqb b 33 n33) refl

pub two-none : (t : Text) → starts is_ascii t ≡ false → beginning_of (codes "{{" ++ t) ≡ first_of two_rows (codes "{{" ++ t)
unfolding beginning_of after_byte
two-none [] e = refl
two-none (b ∷ t) e = two-byte b t (beyond b left_brace refl e) (beyond b 33 refl e)

pub three-none : (t : Text) (p : Bool × Text) → p ≡ tilde_at t → after_byte left_brace t ≡ None → beginning_of (codes "{{{" ++ t) ≡ Some (beginning html_kind p.0 p.1)
unfolding beginning_of after_byte
three-none t p is e = rw (is, e) refl

pub four-slash : (t r : Text) (p : Bool × Text) → p ≡ tilde_at t → after_byte slash p.1 ≡ Some r → beginning_of (codes "{{{{" ++ t) ≡ Some (beginning raw_close_kind p.0 (after_white r))
unfolding beginning_of after_byte
four-slash t r p is e = rw is (rw (rw is at e) refl)

pub four-none : (t : Text) (p : Bool × Text) → p ≡ tilde_at t → after_byte slash p.1 ≡ None → beginning_of (codes "{{{{" ++ t) ≡ Some (beginning raw_kind p.0 p.1)
unfolding beginning_of after_byte
four-none t p is e = rw is (rw (rw is at e) refl)

-- ---- a tilde after two braces

-- what the rows of two braces give: without a tilde; with a tilde and a third brace after it; and with a tilde and no third
-- brace
pub record TwoRead (t : Text) (p : Bool × Text) : Type 0 where
  pub plain : p.0 ≡ false → first_of two_rows (codes "{{" ++ t) ≡ signed_by sign_rows false p.1
  pub brace : (r : Text) → p.0 ≡ true → after_byte left_brace p.1 ≡ Some r → first_of two_rows (codes "{{" ++ t) ≡ Some (beginning html_kind true (after_white r))
  pub other : p.0 ≡ true → after_byte left_brace p.1 ≡ None → first_of two_rows (codes "{{" ++ t) ≡ signed_by sign_rows true p.1

pub two-read : (t : Text) (p : Bool × Text) → p ≡ tilde_at t → TwoRead t p
unfolding after_byte
two-read t p is = on (after_byte tilde (after_white t)) is refl
  where
    tilde_is : Bool × Text → Bool
    tilde_is q = q.0

    on : (o : Option Text) → p ≡ with_or o (λ r. (true, after_white r)) (false, after_white t) → after_byte tilde (after_white t) ≡ o → TwoRead t p
    on None is none = record {
      plain = λ e. rw (is, none) refl;
      brace = λ r e h. absurd (true≢false (sym e ∙ ap tilde_is is));
      other = λ e h. absurd (true≢false (sym e ∙ ap tilde_is is));
    }
    on (Some s) is some = record {
      plain = λ e. absurd (true≢false (sym (ap tilde_is is) ∙ e));
      brace = λ r e h. rw some (rw (rw is at h) refl);
      other = λ e h. rw (is, some) (rw (rw is at h) refl);
    }

-- ---- signs

pub sign-ampersand : (l : Bool) (t : Text) → signed_by sign_rows l (codes "&" ++ t) ≡ Some (beginning html_sign_kind l (after_white t))
unfolding after_byte
sign-ampersand l t = refl

pub sign-slash : (l : Bool) (t : Text) → signed_by sign_rows l (codes "/" ++ t) ≡ Some (beginning close_kind l (after_white t))
unfolding after_byte
sign-slash l t = refl

pub sign-caret : (l : Bool) (t : Text) → signed_by sign_rows l (codes "^" ++ t) ≡ Some (beginning inverse_kind l (after_white t))
unfolding after_byte
sign-caret l t = refl

pub sign-asterisk : (l : Bool) (t : Text) → signed_by sign_rows l (codes "*" ++ t) ≡ Some (beginning decorator_kind l (after_white t))
unfolding after_byte
sign-asterisk l t = refl

pub sign-greater : (l : Bool) (t : Text) → signed_by sign_rows l (codes ">" ++ t) ≡ Some (beginning partial_kind l (after_white t))
unfolding after_byte
sign-greater l t = refl

pub sign-e : (l : Bool) (t : Text) → signed_by sign_rows l (codes "e" ++ t) ≡ signed_by word_rows l (codes "e" ++ t)
unfolding after_byte
sign-e l t = refl

pub sign-byte : (l : Bool) (b : ℕ) (t : Text) → b ≢ 38 → b ≢ 35 → b ≢ 47 → b ≢ 94 → b ≢ 42 → b ≢ 62 → b ≢ 101
    → signed_by sign_rows l (b ∷ t) ≡ Some (beginning escaped_kind l (b ∷ t))
unfolding after_byte
sign-byte l b t n38 n35 n47 n94 n42 n62 n101 = rw (ne_eqb b 38 n38, ne_eqb b 35 n35, ne_eqb b 47 n47, ne_eqb b 94 n94, ne_eqb b 42 n42, ne_eqb b 62 n62, ne_eqb b 101 n101) refl

pub sign-none : (l : Bool) (t : Text) → starts is_ascii t ≡ false → signed_by sign_rows l t ≡ Some (beginning escaped_kind l t)
unfolding after_byte
sign-none l [] e = refl
sign-none l (b ∷ t) e = sign-byte l b t (beyond b 38 refl e) (beyond b 35 refl e) (beyond b 47 refl e) (beyond b 94 refl e) (beyond b 42 refl e) (beyond b 62 refl e) (beyond b 101 refl e)

-- ---- a sign after `#`

pub block-asterisk : (l : Bool) (t : Text) → signed_by sign_rows l (codes "#*" ++ t) ≡ Some (beginning decorator_block_kind l (after_white t))
unfolding after_byte
block-asterisk l t = refl

pub block-greater : (l : Bool) (t : Text) → signed_by sign_rows l (codes "#>" ++ t) ≡ Some (beginning partial_block_kind l (after_white t))
unfolding after_byte
block-greater l t = refl

pub block-byte : (l : Bool) (b : ℕ) (t : Text) → b ≢ 42 → b ≢ 62 → signed_by sign_rows l (codes "#" ++ b ∷ t) ≡ Some (beginning block_kind l (after_white (b ∷ t)))
unfolding after_byte
block-byte l b t n42 n62 = rw (ne_eqb b 42 n42, ne_eqb b 62 n62) refl

pub block-none : (l : Bool) (t : Text) → starts is_ascii t ≡ false → signed_by sign_rows l (codes "#" ++ t) ≡ Some (beginning block_kind l (after_white t))
unfolding after_byte
block-none l [] e = refl
block-none l (b ∷ t) e = block-byte l b t (beyond b 42 refl e) (beyond b 62 refl e)
