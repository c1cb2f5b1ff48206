-- With which bytes parameters begin, and what may follow them, so that no key is read where there is none.
use Rattle.std.proofs.Common.{◌≡◌, ◌≢◌, ℕ, suc, ◌+◌, Bool, true, false, ◌||◌, List, [], ◌∷◌, ◌++◌, length, drop, None, refl, sym, ap, subst, ◌∙◌, append_assoc, append-nil, arith, inl, inr}
use Rattle.std.specs.Prelude.{◌==◌}
use Rattle.std.specs.List.{AllByRecursion}
use Rattle.std.proofs.lemmas.Bool.{eqb-true, cases_Bool, or_cases, or_parts, not-false}
use Rattle.handlebars_base.specs.Bytes.{is_white, after_white, is_symbol}
use Rattle.handlebars_base.specs.Path.{IsIdentifier, Reference, IsPath}
use Rattle.handlebars_base.specs.PathReading.{is_reference_byte, reference_from, reference_len}
use Rattle.handlebars_base.proofs.References.{ends_reference-path, reference_len-append, starts_reference, ends_reference}
use Rattle.handlebars_base.specs.Texts.{IsWhite, starts, after_byte, after_symbols}
use Rattle.handlebars_base.proofs.Prefixes.{after_white-dark, after_white-append, starts-other, starts-append, after_byte-not, starts-more}
use Rattle.handlebars_base.proofs.Bytes.{other_byte}
use Rattle.handlebars_base.proofs.Runs.{on_symbol, on_mark, prefix_len-none}
use Rattle.handlebars_expressions.specs.Literal.{Literal, quoted, single_quoted, number, word, empty, filled, array, object, spelled_literal, IsLiteral, continues_literal}
use Rattle.handlebars_expressions.specs.Parameter.{TermShape, literal_shape, path_shape, nested_shape, Items, no_items, parameter_item, hash_item, spelled_shape, spelled_items, Fits, AreItems}
use Rattle.handlebars_expressions.specs.Expression.{Enclosure, in_tag, in_block, in_parentheses, ends_tag, Closes}
use Rattle.handlebars_expressions.specs.ExpressionReading.{key_and_equals_at}
use Rattle.handlebars_expressions.proofs.Plain.{ContinuesThroughout, number_goes_on, word_goes_on}
use Rattle.handlebars_expressions.specs.Binding.{begins_binding}
use Rattle.handlebars_expressions.proofs.Bindings.{BeginsAt, binding_begins}
use Rattle.handlebars_expressions.proofs.ExpressionMarks.{key_and_equals_at-none, key_and_equals_at-dark}

-- ---- with which bytes parameters begin

-- a byte with which a literal or a path begins
abbrev pub begins_single : ℕ → Bool
begins_single b = starts_reference b || (b == 34 || (b == 39 || b == 123))

-- a byte with which a parameter begins
abbrev pub begins : ℕ → Bool
begins b = begins_single b || b == 40

pub begins_dark : (b : ℕ) → begins b ≡ true → is_white b ≡ false
begins_dark b h = rw (other_byte begins 32 refl b h, other_byte begins 9 refl b h, other_byte begins 10 refl b h, other_byte begins 13 refl b h) refl

reference_single : (b : ℕ) → starts_reference b ≡ true → begins_single b ≡ true
reference_single b h = rw h refl

single_begins : (b : ℕ) → begins_single b ≡ true → begins b ≡ true
single_begins b h = rw h refl

reference_begins : (b : ℕ) → starts_reference b ≡ true → begins b ≡ true
reference_begins b h = single_begins b (reference_single b h)

symbol_starts : (b : ℕ) → is_symbol b ≡ true → starts_reference b ≡ true
symbol_starts b h = rw h refl

symbol_begins : (b : ℕ) → is_symbol b ≡ true → begins b ≡ true
symbol_begins b h = reference_begins b (symbol_starts b h)

pub goes_on_starts : (b : ℕ) → continues_literal b ≡ true → starts_reference b ≡ true
goes_on_starts b h = elim (cases_Bool (is_symbol b)) [
  | inl is ↦ symbol_starts b is
  | inr other ↦ elim (cases_Bool (b == 46)) [
    | inl point ↦ let same : b ≡ 46 = eqb-true b 46 point in ap starts_reference same
    | inr more ↦ let same : b ≡ 47 = eqb-true b 47 (rw (other, more) at h) in ap starts_reference same
  ]
]

path_starts : (t : List ℕ) → ends_reference t ≡ false → starts starts_reference t ≡ true
path_starts [] e = absurd cc
path_starts (b ∷ t) e = not-false (starts_reference b) e

pub path_begins : (t : List ℕ) (means : Reference) → IsPath t means → starts begins_single t ≡ true
path_begins t means h = starts-more starts_reference begins_single t reference_single (path_starts t (ends_reference-path t means h))

plain_begins : (t : List ℕ) → ContinuesThroughout t → starts begins_single t ≡ true
plain_begins [] h = absurd (omega (arith, h.some))
plain_begins (b ∷ t) h = reference_single b (goes_on_starts b h.all.0)

pub literal_begins : (l : Literal) → IsLiteral l → starts begins_single (spelled_literal l) ≡ true
literal_begins (quoted t) fits = refl
literal_begins (single_quoted t) fits = refl
literal_begins (number t) fits = plain_begins t (number_goes_on t fits)
literal_begins (word t) fits = plain_begins t (word_goes_on t fits)
literal_begins (empty array w) fits = refl
literal_begins (empty object w) fits = refl
literal_begins (filled array lead l w more) fits = refl
literal_begins (filled object lead l w more) fits = refl

pub shape_begins : (p : TermShape) (rest : List ℕ) → Fits p rest → starts begins (spelled_shape p) ≡ true
shape_begins (literal_shape l) rest fits = starts-more begins_single begins (spelled_literal l) single_begins (literal_begins l fits)
shape_begins (path_shape t means) rest fits = starts-more begins_single begins t single_begins (path_begins t means fits)
shape_begins (nested_shape w name items v) rest fits = refl

pub shape_starts : (p : TermShape) (rest t : List ℕ) → Fits p rest → starts begins (spelled_shape p ++ t) ≡ true
shape_starts p rest t fits = starts-append begins (spelled_shape p) t (shape_begins p rest fits)

key_begins : (key : List ℕ) → IsIdentifier key → starts begins key ≡ true
key_begins [] id = absurd (id.0 refl)
key_begins (b ∷ key) id = symbol_begins b id.1.0

pub key_starts : (key t : List ℕ) → IsIdentifier key → starts begins (key ++ t) ≡ true
key_starts key t id = starts-append begins key t (key_begins key id)

pub begins_no_white : (t : List ℕ) → starts begins t ≡ true → starts is_white t ≡ false
begins_no_white t h = starts-other begins is_white t begins_dark h

-- no parenthesis is where a literal or a path is
pub single_no_parenthesis : (t : List ℕ) → starts begins_single t ≡ true → after_byte 40 t ≡ None
single_no_parenthesis t h = after_byte-not 40 t (starts-other begins_single (λ b. b == 40) t (other_byte begins_single 40 refl) h)

-- ---- what follows a parameter

-- whitespace, or what ends an expression
abbrev pub closes_byte : ℕ → Bool
closes_byte b = is_white b || (b == 41 || (b == 125 || b == 126))

pub record Follows (t : List ℕ) : Type 0 where
  pub first : starts closes_byte t ≡ true
  pub no_equals : starts (λ b. b == 61) (after_white t) ≡ false

white_closes : (b : ℕ) → is_white b ≡ true → closes_byte b ≡ true
white_closes b h = rw h refl

white_starts : (w t : List ℕ) → IsWhite w → w ≢ [] → starts closes_byte (w ++ t) ≡ true
white_starts [] t white some = absurd (some refl)
white_starts (b ∷ w) t white some = white_closes b white.0

-- what comes after optional whitespace decides
closing_starts : (p : ℕ → Bool) (t : List ℕ) → ((b : ℕ) → p b ≡ true → closes_byte b ≡ true) → starts p (after_white t) ≡ true → starts closes_byte t ≡ true
closing_starts p [] closes h = absurd cc
closing_starts p (b ∷ t) closes h = elim (cases_Bool (is_white b)) [
  | inl yea ↦ white_closes b yea
  | inr nay ↦ let first : p b ≡ true = rw nay at h in closes b first
]

mark_follows : (p : ℕ → Bool) (t : List ℕ) → ((b : ℕ) → p b ≡ true → closes_byte b ≡ true) → p 61 ≡ false → starts p (after_white t) ≡ true → Follows t
mark_follows p t closes never h = record {
  first = closing_starts p t closes h;
  no_equals = starts-other p (λ b. b == 61) (after_white t) (other_byte p 61 never) h;
}

tag_closes : (b : ℕ) → ends_tag b ≡ true → closes_byte b ≡ true
tag_closes b h = elim (or_cases (b == 126) (b == 125) h) [
  | inl is ↦ let same : b ≡ 126 = eqb-true b 126 is in ap closes_byte same
  | inr is ↦ let same : b ≡ 125 = eqb-true b 125 is in ap closes_byte same
]

parenthesis_closes : (b : ℕ) → (b == 41) ≡ true → closes_byte b ≡ true
parenthesis_closes b is = let same : b ≡ 41 = eqb-true b 41 is in ap closes_byte same

binding_follows : (t r : List ℕ) → BeginsAt t r → Follows t
binding_follows t r h = record {
  first = starts-more is_white closes_byte t white_closes h.spaced;
  no_equals = rw h.after refl;
}

pub closing_follows : (around : Enclosure) (t : List ℕ) → Closes around t → Follows t
closing_follows in_tag t h = mark_follows ends_tag t tag_closes refl h
closing_follows in_block t h = elim (or_cases (starts ends_tag (after_white t)) (begins_binding t) h) [
  | inl ends ↦ mark_follows ends_tag t tag_closes refl ends
  | inr begins ↦ let b = binding_begins t begins in binding_follows t b.0 b.1
]
closing_follows in_parentheses t h = mark_follows (λ b. b == 41) t parenthesis_closes refl h

item_follows : (w t : List ℕ) → IsWhite w → w ≢ [] → starts begins t ≡ true → Follows (w ++ t)
item_follows w t white some start =
    let dark = after_white-append w t white (begins_no_white t start) in
    record {
      first = white_starts w t white some;
      no_equals = rw dark (starts-other begins (λ b. b == 61) t (other_byte begins 61 refl) start);
    }

pub items_follow : (around : Enclosure) (items : Items) (rest : List ℕ) → AreItems items rest → Closes around rest → Follows (spelled_items items ++ rest)
items_follow around no_items rest fits closes = closing_follows around rest closes
items_follow around (parameter_item w p more) rest fits closes =
    let after : List ℕ = spelled_shape p ++ spelled_items more in
    let start = starts-append begins after rest (shape_starts p (spelled_items more ++ rest) (spelled_items more) fits.4) in
    subst Follows (sym (append_assoc w after rest)) (item_follows w (after ++ rest) fits.0 fits.1 start)
items_follow around (hash_item w key u v p more) rest fits closes =
    let equals : List ℕ = u ++ 61 ∷ (v ++ (spelled_shape p ++ spelled_items more)) in
    let start = starts-append begins (key ++ equals) rest (key_starts key equals fits.2) in
    subst Follows (sym (append_assoc w (key ++ equals) rest)) (item_follows w ((key ++ equals) ++ rest) fits.0 fits.1 start)

-- where that is, no path continues
closes_stops : (b : ℕ) → closes_byte b ≡ true → starts_reference b ≡ false
closes_stops b h = elim (cases_Bool (starts_reference b)) [
  | inl is ↦
      let dark = begins_dark b (reference_begins b is) in
      let shut = other_byte starts_reference 41 refl b is in
      let brace = other_byte starts_reference 125 refl b is in
      let wave = other_byte starts_reference 126 refl b is in
      let no : closes_byte b ≡ false = rw (dark, shut, brace, wave) refl in
      absurd cc
  | inr other ↦ other
]

pub white_stops : (b : ℕ) → is_white b ≡ true → starts_reference b ≡ false
white_stops b h = closes_stops b (white_closes b h)

starts_stops : (t : List ℕ) → starts closes_byte t ≡ true → ends_reference t ≡ true
starts_stops [] h = absurd cc
starts_stops (b ∷ t) h = rw (closes_stops b h) refl

pub follows_stops : (t : List ℕ) → Follows t → ends_reference t ≡ true
follows_stops t f = starts_stops t f.first

no_symbol : (b : ℕ) → starts_reference b ≡ false → is_symbol b ≡ false
no_symbol b h = (or_parts (is_symbol b) _ (or_parts (is_reference_byte b) (b == 91) h).0).0

pub follows_no_symbol : (t : List ℕ) → Follows t → starts is_symbol t ≡ false
follows_no_symbol t f = starts-other closes_byte is_symbol t (λ b is. no_symbol b (closes_stops b is)) f.first

-- ---- there is no key where a parameter is

no_equals_here : (t : List ℕ) → starts begins t ≡ true → starts (λ b. b == 61) (after_white t) ≡ false
no_equals_here t h =
    rw (after_white-dark t (begins_no_white t h)) (starts-other begins (λ b. b == 61) t (other_byte begins 61 refl) h)

no_equals_after : (t : List ℕ) → Follows t → starts (λ b. b == 61) (after_white (after_symbols t)) ≡ false
no_equals_after t f =
    let all : after_symbols t ≡ t = ap (λ (n : ℕ). drop n t) (prefix_len-none is_symbol t (follows_no_symbol t f)) in
    rw all f.no_equals

plain_no_equals : (u t : List ℕ) → AllByRecursion (λ b. continues_literal b ≡ true) u → Follows t → starts (λ b. b == 61) (after_white (after_symbols (u ++ t))) ≡ false
plain_no_equals [] t all f = no_equals_after t f
plain_no_equals (x ∷ xs) t all f = elim (cases_Bool (is_symbol x)) [
  | inl is ↦ rw (on_symbol x (xs ++ t) is) (plain_no_equals xs t all.1 f)
  | inr mark ↦ rw (on_mark x (xs ++ t) mark) (no_equals_here (x ∷ (xs ++ t)) (reference_begins x (goes_on_starts x all.0)))
]

symbol_step : (x : ℕ) (xs : List ℕ) → is_symbol x ≡ true → reference_from false (x ∷ xs) ≡ suc (length xs) → reference_from false xs ≡ length xs
unfolding reference_from
symbol_step x xs is e =
    let unbracketed : (x == 91) ≡ false = other_byte is_symbol 91 refl x is in
    let on : is_reference_byte x ≡ true = rw is refl in
    let e' : suc (reference_from false xs) ≡ suc (length xs) = rw (unbracketed, on) at e in
    omega (arith, e')

mark_step : (x : ℕ) (xs : List ℕ) → reference_from false (x ∷ xs) ≡ suc (length xs) → starts_reference x ≡ true
unfolding reference_from
mark_step x xs e = elim (cases_Bool (x == 91)) [
  | inl bracket ↦ let same : x ≡ 91 = eqb-true x 91 bracket in ap starts_reference same
  | inr other ↦ elim (cases_Bool (is_reference_byte x)) [
    | inl on ↦ rw on refl
    | inr off ↦ let no : 0 ≡ suc (length xs) = rw (other, off) at e in absurd (omega (arith, no))
  ]
]

path_no_equals : (u t : List ℕ) → reference_from false u ≡ length u → Follows t → starts (λ b. b == 61) (after_white (after_symbols (u ++ t))) ≡ false
path_no_equals [] t e f = no_equals_after t f
path_no_equals (x ∷ xs) t e f = elim (cases_Bool (is_symbol x)) [
  | inl is ↦ rw (on_symbol x (xs ++ t) is) (path_no_equals xs t (symbol_step x xs is e) f)
  | inr mark ↦ rw (on_mark x (xs ++ t) mark) (no_equals_here (x ∷ (xs ++ t)) (reference_begins x (mark_step x xs e)))
]

none_more : (t : List ℕ) → length t + reference_len [] ≡ length t
unfolding reference_from
none_more t = omega arith

pub no_key : (p : TermShape) (rest : List ℕ) → Fits p rest → Follows rest → key_and_equals_at (spelled_shape p ++ rest) ≡ None
no_key (literal_shape (quoted s)) rest fits f = key_and_equals_at-dark _ refl
no_key (literal_shape (single_quoted s)) rest fits f = key_and_equals_at-dark _ refl
no_key (literal_shape (number n)) rest fits f = key_and_equals_at-none (n ++ rest) (plain_no_equals n rest (number_goes_on n fits).all f)
no_key (literal_shape (word n)) rest fits f = key_and_equals_at-none (n ++ rest) (plain_no_equals n rest (word_goes_on n fits).all f)
no_key (literal_shape (empty array w)) rest fits f = key_and_equals_at-dark _ refl
no_key (literal_shape (empty object w)) rest fits f = key_and_equals_at-dark _ refl
no_key (literal_shape (filled array lead l w more)) rest fits f = key_and_equals_at-dark _ refl
no_key (literal_shape (filled object lead l w more)) rest fits f = key_and_equals_at-dark _ refl
no_key (path_shape t means) rest fits f =
    let all : reference_len t ≡ length t = ap reference_len (sym (append-nil t)) ∙ reference_len-append t [] means fits ∙ none_more t in
    key_and_equals_at-none (t ++ rest) (path_no_equals t rest all f)
no_key (nested_shape w name items v) rest fits f = key_and_equals_at-dark _ refl
