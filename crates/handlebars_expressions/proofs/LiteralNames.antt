-- If a name's letter is at the start, no literal is.
use Rattle.std.proofs.Common.{◌≡◌, ℕ, zero, suc, ◌+◌, ◌≤◌, Bool, true, false, ◌&&◌, ◌||◌, [], ◌∷◌, length, take, None, refl, add-one, arith}
use Rattle.std.specs.Prelude.{◌==◌, not, nat_le}
use Rattle.std.specs.Char.{is_ascii_digit, is_ascii_lowercase}
use Rattle.std.proofs.lemmas.Bool.{and_parts}
use Rattle.std.specs.List.{prefix_len}
use Rattle.handlebars_base.specs.Bytes.{Text}
use Rattle.handlebars_base.specs.Texts.{starts, after_byte}
use Rattle.handlebars_base.proofs.Bytes.{other_byte}
use Rattle.handlebars_expressions.specs.Literal.{is_number, is_word, continues_literal}
use Rattle.handlebars_expressions.specs.LiteralReading.{begins_number, begins_name, after_scalar, undoubled_at, unbracketed_at, value_token, no_token, literal_at}
use Rattle.handlebars_expressions.proofs.Plain.{number-other}

and_false : (c : Bool) → (c && false) ≡ false
and_false true = refl
and_false false = refl

from_97 : (b : ℕ) → is_ascii_lowercase b ≡ true → 97 ≤ b
from_97 b h = let both = and_parts (nat_le 97 b) (nat_le b 122) h in grind (arith, both)

no_digit : (b : ℕ) → 97 ≤ b → is_ascii_digit b ≡ false
no_digit b low = let above : nat_le b 57 ≡ false = grind arith in rw above (and_false (nat_le 48 b))

no_hyphen : (b : ℕ) → 97 ≤ b → (b == 45) ≡ false
no_hyphen b low = grind arith

-- A name's letter begins no number.
no_number : (b : ℕ) → begins_name b ≡ true → begins_number b ≡ false
no_number b h =
    let low = from_97 b (and_parts (is_ascii_lowercase b) (not ((b == 110) || ((b == 116) || (b == 102)))) h).0 in
    rw (no_digit b low, no_hyphen b low) refl

starts-prefix : (p : ℕ → Bool) (b : ℕ) (t : Text) (n : ℕ) → p b ≡ false → starts p (take n (b ∷ t)) ≡ false
starts-prefix p b t zero h = refl
starts-prefix p b t (suc n) h = h

word-prefix : (b : ℕ) (t : Text) (n : ℕ) → begins_name b ≡ true → is_word (take n (b ∷ t)) ≡ false
word-prefix b t zero h = refl
word-prefix b t (suc n) h =
    let n_ : (b == 110) ≡ false = other_byte begins_name 110 refl b h in
    let t_ : (b == 116) ≡ false = other_byte begins_name 116 refl b h in
    let f_ : (b == 102) ≡ false = other_byte begins_name 102 refl b h in
    rw (n_, t_, f_) refl

plain-none : (b : ℕ) (t : Text) → begins_name b ≡ true → after_scalar (b ∷ t) ≡ None
unfolding after_scalar
plain-none b t h =
    let n = prefix_len continues_literal (b ∷ t) in
    let number : is_number (take n (b ∷ t)) ≡ false = number-other (take n (b ∷ t)) (starts-prefix begins_number b t n (no_number b h)) in
    rw (number, word-prefix b t n h) refl

value-none : (b : ℕ) (t : Text) → begins_name b ≡ true → value_token false (b ∷ t) ≡ no_token
unfolding value_token unbracketed_at undoubled_at after_byte
value-none b t h =
    let bracket : (b == 91) ≡ false = other_byte begins_name 91 refl b h in
    let brace : (b == 123) ≡ false = other_byte begins_name 123 refl b h in
    let double : (b == 34) ≡ false = other_byte begins_name 34 refl b h in
    let single : (b == 39) ≡ false = other_byte begins_name 39 refl b h in
    rw (bracket, brace, double, single, plain-none b t h) refl

pub no_literal : (t : Text) → starts begins_name t ≡ true → literal_at t ≡ None
unfolding literal_at
no_literal [] h = absurd cc
no_literal (b ∷ t) h =
    let more : length (b ∷ t) + 1 ≡ suc (length (b ∷ t)) = add-one (length (b ∷ t)) in
    rw (more, value-none b t h) refl
