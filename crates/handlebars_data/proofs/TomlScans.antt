-- A TOML text whose floats are put in quotes, one byte after another.
use Rattle.std.proofs.Common.{◌≡◌, ℕ, ◌+◌, ◌-◌, ◌<◌, ◌≤◌, List, [], ◌∷◌, ◌++◌, length, get_or, drop, Bool, true, false, cond, IsUtf8, refl, sym, ap, ◌∙◌, arith, append_assoc, below_more, drop-cons, add-one, subst, true≢false, ◌&&◌}
use Rattle.std.proofs.Math.ListN.{drop_of_length-le}
use Rattle.std.proofs.Math.Seq.{take-add}
use Rattle.std.proofs.lemmas.Bool.Decides.{nat_tests}
use Rattle.std.proofs.lemmas.List.{append-nil, drop-drop, length-drop, take_all}
use Rattle.std.proofs.lemmas.Str.{IsCharBoundary-before_ascii, IsCharBoundary-after_ascii}
use Rattle.std.specs.List.{slice_range}
use Rattle.std.specs.Str.{IsCharBoundary}
use Rattle.toml_parser.specs.Lexical.{is_word}
use Rattle.toml_parser.specs.Numbers.{unquoted, word_len}
use Rattle.handlebars_data.specs.TomlFloats.{in_word, is_float, is_float_value, quote_floats, quoted_word, in_quotes}
use Rattle.handlebars_data.specs.TomlPlaces.{is_between, step}
use Rattle.handlebars_data.specs.TomlWords.{PushesWord}
use Rattle.handlebars_data.specs.declared.toml_place.Place.{Place}

word_ascii : (b : ℕ) → is_word b ≡ true → b < 128
word_ascii b is = grind (arith, nat_tests)

-- the bytes from one place up to another go on with a word
abbrev pub AreInWord : List ℕ → ℕ → ℕ → Type 0
AreInWord text word at = (k : ℕ) → word ≤ k → k < at → is_word (get_or text k 0) ≡ true

pub word_start : (text : List ℕ) (word at : ℕ) → AreInWord text word at → at ≤ length text → word < at → IsCharBoundary text word
word_start text word at are within some = IsCharBoundary-before_ascii text word (omega arith) (word_ascii _ (are word (omega arith) some))

pub word_end : (text : List ℕ) (word at : ℕ) → IsUtf8 text → AreInWord text word at → at ≤ length text → word < at → IsCharBoundary text at
word_end text word at utf8 are within some =
    let more : at - 1 + 1 ≡ at = omega arith in
    subst (IsCharBoundary text) more (IsCharBoundary-after_ascii text (at - 1) utf8 (omega arith) (word_ascii _ (are (at - 1) (omega arith) (omega arith))))

pub slices : {X : Type 0} (text : List X) (a b c : ℕ) → a ≤ b → b ≤ c → slice_range text a b ++ slice_range text b c ≡ slice_range text a c
slices text a b c first second =
    let parts : c - a ≡ (b - a) + (c - b) = omega arith in
    let from : a + (b - a) ≡ b = omega arith in
    sym (rw (parts, take-add (b - a) (c - b) (drop a text), drop-drop (b - a) a text, from))

no_word : (text : List ℕ) (at : ℕ) → slice_range text at at ≡ []
no_word text at = let none : at - at ≡ 0 = omega arith in rw none

nothing_is_no_float : is_float [] ≡ false
unfolding unquoted word_len
nothing_is_no_float = refl

-- no word is pushed
pub no_push : (text : List ℕ) (copied word at : ℕ) (old : List ℕ) → copied ≤ word → word ≡ at → IsCharBoundary text copied → PushesWord text copied word at old old copied
no_push text copied word at old order same start =
    let none : slice_range text word at ≡ [] = ap (λ w. slice_range text w at) same ∙ no_word text at in
    (omega arith, start, ap (λ z. old ++ z) (ap (slice_range text copied) (sym same) ∙ sym (rw (none, nothing_is_no_float) (append-nil _))))

-- a word that is no float stays
pub plain_word : (text : List ℕ) (copied word at : ℕ) (old : List ℕ) → copied ≤ word → word ≤ at → IsCharBoundary text copied
    → is_float_value (slice_range text word at) (drop at text) ≡ false → PushesWord text copied word at old old copied
plain_word text copied word at old order up_to start plain =
    let same : quoted_word (slice_range text word at) (drop at text) ≡ slice_range text word at =
    ap (λ b. cond b (in_quotes (slice_range text word at)) (slice_range text word at)) plain in
    (omega arith, start, ap (λ z. old ++ z) (sym (ap (λ w. slice_range text copied word ++ w) same ∙ slices text copied word at order up_to)))

second : (a b : Bool) → (a && b) ≡ true → b ≡ true
second true b is = is
second false b is = absurd (true≢false (sym is))

-- one more byte that goes on with the word
pub more_in_word : (text : List ℕ) (p : Place) (word at : ℕ) → AreInWord text word at → in_word p (get_or text at 0) ≡ true → AreInWord text word (at + 1)
more_in_word text p word at are goes =
    λ k low high. below_more (λ i. word ≤ i → is_word (get_or text i 0) ≡ true) at (λ i below from. are i from below)
    (λ from. second (is_between p.inside) _ goes) k high low

pub none_in_word : (text : List ℕ) (at : ℕ) → AreInWord text at at
none_in_word text at = λ k low high. absurd (omega arith)

-- ---- one more byte

one_byte : (text : List ℕ) (at : ℕ) → at < length text → slice_range text at (at + 1) ≡ get_or text at 0 ∷ []
one_byte text at within =
    let one : at + 1 - at ≡ 1 = omega arith in
    rw (one, drop-cons text at 0 within)

rest_of : (text : List ℕ) (at : ℕ) → at < length text → drop at text ≡ get_or text at 0 ∷ drop (at + 1) text
rest_of text at within = rw add-one (drop-cons text at 0 within)

module _ (p : Place) (word : List ℕ) (b : ℕ) (bs : List ℕ) where
  byte_in_word : in_word p b ≡ true → quote_floats p word (b ∷ bs) ≡ quote_floats (step p b) (word ++ b ∷ []) bs
  unfolding quote_floats
  byte_in_word goes = ap (λ c. cond c (quote_floats (step p b) (word ++ b ∷ []) bs) (quoted_word word (b ∷ bs) ++ b ∷ quote_floats (step p b) [] bs)) goes

  byte_after_word : in_word p b ≡ false → quote_floats p word (b ∷ bs) ≡ quoted_word word (b ∷ bs) ++ b ∷ quote_floats (step p b) [] bs
  unfolding quote_floats
  byte_after_word over = ap (λ c. cond c (quote_floats (step p b) (word ++ b ∷ []) bs) (quoted_word word (b ∷ bs) ++ b ∷ quote_floats (step p b) [] bs)) over

no_byte : (p : Place) (word : List ℕ) → quote_floats p word [] ≡ quoted_word word []
unfolding quote_floats
no_byte p word = refl

-- the byte goes on with the word
pub word_goes_on : (text : List ℕ) (p q : Place) (copied word at : ℕ) (out all : List ℕ) → word ≤ at → at < length text
    → in_word p (get_or text at 0) ≡ true → q ≡ step p (get_or text at 0)
    → out ++ (slice_range text copied word ++ quote_floats p (slice_range text word at) (drop at text)) ≡ all
    → out ++ (slice_range text copied word ++ quote_floats q (slice_range text word (at + 1)) (drop (at + 1) text)) ≡ all
word_goes_on text p q copied word at out all up_to within goes next so_far =
    let b = get_or text at 0 in
    let more : slice_range text word at ++ get_or text at 0 ∷ [] ≡ slice_range text word (at + 1) =
    ap (λ z. slice_range text word at ++ z) (sym (one_byte text at within)) ∙ slices text word at (at + 1) up_to (omega arith) in
    let turn : quote_floats p (slice_range text word at) (drop at text) ≡ quote_floats q (slice_range text word (at + 1)) (drop (at + 1) text) =
    ap (quote_floats p (slice_range text word at)) (rest_of text at within) ∙ byte_in_word p (slice_range text word at) (get_or text at 0) (drop (at + 1) text) goes
    ∙ ap (λ w. quote_floats (step p (get_or text at 0)) w (drop (at + 1) text)) more ∙ ap (λ r. quote_floats r (slice_range text word (at + 1)) (drop (at + 1) text)) (sym next) in
    ap (λ z. out ++ (slice_range text copied word ++ z)) (sym turn) ∙ so_far

joined : (new now out sl qw q : List ℕ) (b : ℕ) → new ++ now ≡ out ++ (sl ++ qw) → new ++ ((now ++ b ∷ []) ++ q) ≡ out ++ (sl ++ (qw ++ b ∷ q))
joined new now out sl qw q b is =
    let left : new ++ ((now ++ b ∷ []) ++ q) ≡ (new ++ now) ++ (b ∷ q) = simp append_assoc in
    let right : (out ++ (sl ++ qw)) ++ (b ∷ q) ≡ out ++ (sl ++ (qw ++ b ∷ q)) = simp append_assoc in
    left ∙ ap (λ z. z ++ (b ∷ q)) is ∙ right

-- the byte ends the word
pub word_is_over : (text : List ℕ) (p r : Place) (copied word at now : ℕ) (out new all : List ℕ) → now ≤ at → at < length text
    → in_word p (get_or text at 0) ≡ false → r ≡ step p (get_or text at 0)
    → new ++ slice_range text now at ≡ out ++ (slice_range text copied word ++ quoted_word (slice_range text word at) (drop at text))
    → out ++ (slice_range text copied word ++ quote_floats p (slice_range text word at) (drop at text)) ≡ all
    → new ++ (slice_range text now (at + 1) ++ quote_floats r (slice_range text (at + 1) (at + 1)) (drop (at + 1) text)) ≡ all
word_is_over text p r copied word at now out new all order within over next pushed so_far =
    let b = get_or text at 0 in
    let more : slice_range text now (at + 1) ≡ slice_range text now at ++ get_or text at 0 ∷ [] =
    sym (slices text now at (at + 1) order (omega arith)) ∙ ap (λ z. slice_range text now at ++ z) (one_byte text at within) in
    let w = slice_range text word at in
    let turn : quote_floats p (slice_range text word at) (drop at text)
    ≡ quoted_word (slice_range text word at) (drop at text) ++ get_or text at 0 ∷ quote_floats (step p (get_or text at 0)) [] (drop (at + 1) text) =
    ap (quote_floats p (slice_range text word at)) (rest_of text at within) ∙ byte_after_word p (slice_range text word at) (get_or text at 0) (drop (at + 1) text) over
    ∙ ap (λ z. quoted_word (slice_range text word at) z ++ get_or text at 0 ∷ quote_floats (step p (get_or text at 0)) [] (drop (at + 1) text)) (sym (rest_of text at within)) in
    let last : quote_floats r (slice_range text (at + 1) (at + 1)) (drop (at + 1) text) ≡ quote_floats (step p (get_or text at 0)) [] (drop (at + 1) text) =
    ap (λ z. quote_floats r z (drop (at + 1) text)) (no_word text (at + 1)) ∙ ap (λ z. quote_floats z [] (drop (at + 1) text)) next in
    ap (λ z. new ++ (z ++ quote_floats r (slice_range text (at + 1) (at + 1)) (drop (at + 1) text))) more
    ∙ ap (λ z. new ++ ((slice_range text now at ++ get_or text at 0 ∷ []) ++ z)) last
    ∙ joined new (slice_range text now at) out (slice_range text copied word) (quoted_word (slice_range text word at) (drop at text)) _ (get_or text at 0) pushed
    ∙ ap (λ z. out ++ (slice_range text copied word ++ z)) (sym turn) ∙ so_far

-- the text is over
pub text_is_over : (text : List ℕ) (p : Place) (copied word now n : ℕ) (out new all last : List ℕ) → n ≡ length text
    → new ++ slice_range text now n ≡ out ++ (slice_range text copied word ++ quoted_word (slice_range text word n) (drop n text))
    → out ++ (slice_range text copied word ++ quote_floats p (slice_range text word n) (drop n text)) ≡ all
    → last ≡ new ++ drop now text → last ≡ all
text_is_over text p copied word now n out new all last is pushed so_far written =
    let none : drop n text ≡ [] = drop_of_length-le text (omega (arith, is)) in
    let whole : slice_range text now n ≡ drop now text = take_all (n - now) (drop now text) (simp length-drop (omega (arith, is))) in
    let over : quote_floats p (slice_range text word n) (drop n text) ≡ quoted_word (slice_range text word n) (drop n text) =
    ap (quote_floats p (slice_range text word n)) none ∙ no_byte p (slice_range text word n) ∙ ap (quoted_word (slice_range text word n)) (sym none) in
    written ∙ ap (λ z. new ++ z) (sym whole) ∙ pushed ∙ ap (λ z. out ++ (slice_range text copied word ++ z)) (sym over) ∙ so_far
