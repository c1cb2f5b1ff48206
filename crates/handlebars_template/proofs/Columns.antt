-- Lines and columns, byte by byte: only the first byte of a character is a column.
use Rattle.std.proofs.Math.Dec.{ltb}
use Rattle.std.proofs.Common.{◌≡◌, ℕ, Bool, length, ◌+◌, ◌/◌, ◌<◌, ◌≤◌, [], ◌∷◌, true, false, refl, sym, ap, ◌∙◌, arith, inl, inr}
use Rattle.std.specs.Prelude.{◌==◌, ◌&&◌, not, cond, nat_lt, fold}
use Rattle.std.specs.Str.{IsUtf8, chars}
use Rattle.std.proofs.Math.Utf8.{next, encode, encodes}
use Rattle.std.proofs.lemmas.Bool.{cases_Bool, and_parts, eqb-false, false≢true, lt-ltb, le-ltb, ltb-true, ltb-false}
use Rattle.std.proofs.lemmas.List.Sums.{fold-append}
use Rattle.std.proofs.lemmas.Str.{encode_ascii, encodes-chars}
use Rattle.handlebars_base.specs.Bytes.{Text, newline}
use Rattle.handlebars_template.specs.Position.{Position, after_char, position_after}

-- a byte that is a column and ends no line
abbrev is_column : ℕ → Bool
is_column b = nat_lt b 128 && not (b == newline)

abbrev pub still_columns : Bool → ℕ → Bool
still_columns all b = all && is_column b

-- the position after one column
abbrev pub next_column : Position → Position
next_column p = record { line = p.line; column = p.column + 1 }

-- the position after one byte: a newline begins a line, and a continuation byte of a character is no column
abbrev pub position_after_byte : Position → ℕ → Position
position_after_byte p b = cond (b == 10) (record { line = p.line + 1; column = 1 }) (cond (nat_lt b 128) (next_column p) (cond (nat_lt b 192) p (next_column p)))

pub same_position : (p q : Position) → p.line ≡ q.line → p.column ≡ q.column → p ≡ q
same_position p q e f = λ i. record { line = e i; column = f i }

pub newline_byte : (p : Position) (b : ℕ) → b ≡ 10 → position_after_byte p b ≡ record { line = p.line + 1; column = 1 }
newline_byte p b is = rw is refl

low : (p : Position) (b : ℕ) → b < 128 → position_after_byte p b ≡ after_char p b
low p b h = let e : nat_lt b 128 ≡ true = grind arith in rw e

pub ascii_byte : (p : Position) (b : ℕ) → (b ≡ 10 → ⊥) → b < 128 → position_after_byte p b ≡ next_column p
ascii_byte p b isnt h =
    let e : (b == 10) ≡ false = grind arith in
    let f : nat_lt b 128 ≡ true = grind arith in
    rw (e, f)

pub continuation_byte : (p : Position) (b : ℕ) → 128 ≤ b → b < 192 → position_after_byte p b ≡ p
continuation_byte p b l h =
    let e : (b == 10) ≡ false = grind arith in
    let f : nat_lt b 128 ≡ false = grind arith in
    let g : nat_lt b 192 ≡ true = grind arith in
    rw (e, f, g)

pub leading_byte : (p : Position) (b : ℕ) → 192 ≤ b → position_after_byte p b ≡ next_column p
leading_byte p b l =
    let e : (b == 10) ≡ false = grind arith in
    let f : nat_lt b 128 ≡ false = grind arith in
    let g : nat_lt b 192 ≡ false = grind arith in
    rw (e, f, g)

high : (p : Position) (c : ℕ) → 128 ≤ c → after_char p c ≡ next_column p
high p c l = let e : (c == 10) ≡ false = grind arith in rw e

next_stays : (p : Position) (x : ℕ) → position_after_byte p (next x) ≡ p
next_stays p x = continuation_byte p (next x) (omega arith) (omega arith)

-- the bytes of one character
encode_two : (c : ℕ) → 128 ≤ c → c < 2048 → encode c ≡ (192 + c / 64) ∷ next c ∷ []
unfolding encode
encode_two c l h = rw (le-ltb c 128 l, lt-ltb c 2048 h)

encode_three : (c : ℕ) → 128 ≤ c → 2048 ≤ c → c < 65536 → encode c ≡ (224 + c / 4096) ∷ next (c / 64) ∷ next c ∷ []
unfolding encode
encode_three c l m h = rw (le-ltb c 128 l, le-ltb c 2048 m, lt-ltb c 65536 h)

encode_four : (c : ℕ) → 128 ≤ c → 2048 ≤ c → 65536 ≤ c → encode c ≡ (240 + c / 262144) ∷ next (c / 4096) ∷ next (c / 64) ∷ next c ∷ []
unfolding encode
encode_four c l m n = rw (le-ltb c 128 l, le-ltb c 2048 m, le-ltb c 65536 n)

-- two, three and four bytes
after_two : (p : Position) (a x : ℕ) → 192 ≤ a → fold position_after_byte p (a ∷ next x ∷ []) ≡ next_column p
after_two p a x l = next_stays (position_after_byte p a) x ∙ leading_byte p a l

after_three : (p : Position) (a x y : ℕ) → 192 ≤ a → fold position_after_byte p (a ∷ next x ∷ next y ∷ []) ≡ next_column p
after_three p a x y l = next_stays (position_after_byte (position_after_byte p a) (next x)) y ∙ after_two p a x l

after_four : (p : Position) (a x y z : ℕ) → 192 ≤ a → fold position_after_byte p (a ∷ next x ∷ next y ∷ next z ∷ []) ≡ next_column p
after_four p a x y z l = next_stays (position_after_byte (position_after_byte (position_after_byte p a) (next x)) (next y)) z ∙ after_three p a x y l

after_long : (p : Position) (c : ℕ) → 128 ≤ c → fold position_after_byte p (encode c) ≡ next_column p
after_long p c l = elim (cases_Bool (ltb c 2048)) [
  | inl is ↦ ap (fold position_after_byte p) (encode_two c l (ltb-true c 2048 is)) ∙ after_two p (192 + c / 64) c (omega arith)
  | inr isnt ↦ elim (cases_Bool (ltb c 65536)) [
    | inl is ↦ ap (fold position_after_byte p) (encode_three c l (ltb-false c 2048 isnt) (ltb-true c 65536 is)) ∙ after_three p (224 + c / 4096) (c / 64) c (omega arith)
    | inr long ↦ ap (fold position_after_byte p) (encode_four c l (ltb-false c 2048 isnt) (ltb-false c 65536 long)) ∙ after_four p (240 + c / 262144) (c / 4096) (c / 64) c (omega arith)
  ]
]

after_encode : (p : Position) (c : ℕ) → fold position_after_byte p (encode c) ≡ after_char p c
after_encode p c = elim (cases_Bool (ltb c 128)) [
  | inl is ↦ ap (fold position_after_byte p) (encode_ascii c (ltb-true c 128 is)) ∙ low p c (ltb-true c 128 is)
  | inr isnt ↦ after_long p c (ltb-false c 128 isnt) ∙ sym (high p c (ltb-false c 128 isnt))
]

after_encodes : (cs : Text) (p : Position) → fold position_after_byte p (encodes cs) ≡ fold after_char p cs
after_encodes [] p = refl
after_encodes (c ∷ cs) p = fold-append position_after_byte p (encode c) (encodes cs) ∙ after_encodes cs (fold position_after_byte p (encode c)) ∙ ap (λ (q : Position). fold after_char q cs) (after_encode p c)

-- The position after a text, by its bytes.
pub position_after-bytes : (p : Position) (t : Text) → IsUtf8 t → fold position_after_byte p t ≡ position_after p t
position_after-bytes p t u = ap (fold position_after_byte p) (sym (encodes-chars t u)) ∙ after_encodes (chars t) p

-- ---- columns alone

broken : (t : Text) → fold still_columns false t ≡ false
broken [] = refl
broken (b ∷ t) = broken t

after_column : (p : Position) (b : ℕ) → is_column b ≡ true → position_after_byte p b ≡ next_column p
after_column p b h =
    let both = and_parts (nat_lt b 128) (not (b == 10)) h in
    let small : b < 128 = ltb-true b 128 both.0 in
    let other : (b == 10) ≡ false = flipped (b == 10) both.1 in
    ascii_byte p b (eqb-false b 10 other) small
  where
    flipped : (c : Bool) → not c ≡ true → c ≡ false
    flipped true e = absurd cc
    flipped false e = refl

after_columns : (t : Text) (p : Position) → fold still_columns true t ≡ true → fold position_after_byte p t ≡ record { line = p.line; column = p.column + length t }
after_columns [] p h = same_position p (record { line = p.line; column = p.column + 0 }) refl (omega arith)
after_columns (b ∷ t) p h = elim (cases_Bool (is_column b)) [
  | inl column ↦
      let rest : fold still_columns true t ≡ true = ap (λ (c : Bool). fold still_columns c t) (sym column) ∙ h in
      ap (λ (q : Position). fold position_after_byte q t) (after_column p b column) ∙ after_columns t (next_column p) rest
      ∙ same_position (record { line = p.line; column = p.column + 1 + length t }) (record { line = p.line; column = p.column + length (b ∷ t) }) refl (omega arith)
  | inr other ↦ absurd (false≢true (sym (ap (λ (c : Bool). fold still_columns c t) other ∙ broken t) ∙ h))
]

pub position_after-columns : (p : Position) (t : Text) → IsUtf8 t → fold still_columns true t ≡ true → record { line = p.line; column = p.column + length t } ≡ position_after p t
position_after-columns p t u h = sym (after_columns t p h) ∙ position_after-bytes p t u
