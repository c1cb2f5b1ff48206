-- The position after one more character.
use Rattle.std.proofs.Common.{◌≡◌, ℕ, ◌+◌, ◌-◌, ◌<◌, ◌≤◌, ◌^◌, Bool, true, false, cond, not, List, [], ◌∷◌, ◌++◌, length, drop, take, refl, sym, ap, ◌∙◌, arith, count_by, encode_utf8, encode_utf8_all, add-zero, IsCharBoundary, IsUtf8, chars, map}
use Rattle.std.specs.Char.{is_newline, len_utf8}
use Rattle.std.specs.List.{after_last, suffix_len, prefix_len}
use Rattle.std.proofs.lemmas.List.Sums.{suffix_len-le-length, sum_by-append, count_by-le-length}
use Rattle.std.proofs.lemmas.List.{length-drop, length-take-le, length-append, reverse-append, take-append-drop}
use Rattle.std.proofs.lemmas.Str.{encodes-append, length-encode, length-le-encodes, encodes-chars, IsUtf8-take}
use Rattle.handlebars_report.specs.declared.position.Position.{Position}
use Rattle.handlebars_report.specs.Position.{line_after, column_after, position_after}
use Rattle.handlebars_report.specs.Stepping.{HasRoom, stepped}

abbrev position_of : ℕ → ℕ → ℕ → Position
position_of offset line column = record { offset = offset; line = line; column = column }

length-after_last : (p : ℕ → Bool) (xs : List ℕ) → length (after_last p xs) ≡ suffix_len (λ x. not (p x)) xs
length-after_last p xs =
    let n = suffix_len (λ x. not (p x)) xs in
    omega (arith, length-drop (length xs - n) xs, suffix_len-le-length (λ x. not (p x)) xs)

suffix_len-push : (q : ℕ → Bool) (cs : List ℕ) (c : ℕ) → suffix_len q (cs ++ c ∷ []) ≡ cond (q c) (1 + suffix_len q cs) 0
suffix_len-push q cs c = ap (prefix_len q) (reverse-append cs (c ∷ []))

cond-not : (b : Bool) (n : ℕ) → cond (not b) (1 + n) 0 + 1 ≡ cond b 1 (n + 1 + 1)
cond-not true n = refl
cond-not false n = omega arith

column_after-push : (cs : List ℕ) (c : ℕ) → column_after (cs ++ c ∷ []) ≡ cond (is_newline c) 1 (column_after cs + 1)
column_after-push cs c =
    ap (λ n. n + 1) (length-after_last is_newline (cs ++ c ∷ []) ∙ suffix_len-push (λ x. not (is_newline x)) cs c)
    ∙ cond-not (is_newline c) (suffix_len (λ x. not (is_newline x)) cs)
    ∙ ap (λ n. cond (is_newline c) 1 (n + 1 + 1)) (sym (length-after_last is_newline cs))

cond-line : (b : Bool) (n : ℕ) → n + (0 + cond b 1 0) + 1 ≡ cond b (n + 1 + 1) (n + 1)
cond-line true n = omega arith
cond-line false n = omega arith

line_after-push : (cs : List ℕ) (c : ℕ) → line_after (cs ++ c ∷ []) ≡ cond (is_newline c) (line_after cs + 1) (line_after cs)
line_after-push cs c =
    ap (λ n. n + 1) (sum_by-append (λ x. cond (is_newline x) 1 0) cs (c ∷ [])) ∙ cond-line (is_newline c) (count_by is_newline cs)

length-encodes-push : (cs : List ℕ) (c : ℕ) → length (encode_utf8_all (cs ++ c ∷ [])) ≡ length (encode_utf8_all cs) + len_utf8 c
length-encodes-push cs c =
    ap length (encodes-append cs (c ∷ [])) ∙ length-append (encode_utf8_all cs) (encode_utf8_all (c ∷ []))
    ∙ ap (λ n. length (encode_utf8_all cs) + n) (length-append (encode_utf8 c) [] ∙ add-zero _ ∙ length-encode c)

position-cond : (b : Bool) (offset line column : ℕ) → position_of offset (cond b (line + 1) line) (cond b 1 (column + 1))
    ≡ cond b (position_of offset (line + 1) 1) (position_of offset line (column + 1))
position-cond true offset line column = refl
position-cond false offset line column = refl

pub position_after-push : (cs : List ℕ) (c : ℕ) → position_after (cs ++ c ∷ []) ≡ stepped (position_after cs) c
position_after-push cs c =
    (λ i. position_of (length-encodes-push cs c i) (line_after-push cs c i) (column_after-push cs c i))
    ∙ position-cond (is_newline c) (length (encode_utf8_all cs) + len_utf8 c) (line_after cs) (column_after cs)

-- ---- there is room for the next character of a text

HasRoom-within : (cs : List ℕ) → length (encode_utf8_all cs) < 2 ^ 63 → HasRoom (position_after cs)
HasRoom-within cs short =
    let within = length-le-encodes cs in
    let lines = count_by-le-length is_newline cs in
    let columns = length-after_last is_newline cs in
    let suffix = suffix_len-le-length (λ x. not (is_newline x)) cs in
    record { offset = omega arith; line = omega arith; column = omega arith }

-- the first characters of a text are no longer than it
length-encodes-take : (text : List ℕ) (n : ℕ) → IsUtf8 text → length (encode_utf8_all (take n (chars text))) ≤ length text
length-encodes-take text n utf8 =
    let whole = ap length (encodes-chars text utf8) in
    let parted = ap (λ cs. length (encode_utf8_all cs)) (take-append-drop n (chars text)) in
    let joined = ap length (encodes-append (take n (chars text)) (drop n (chars text))) in
    omega (arith, length-append (encode_utf8_all (take n (chars text))) (encode_utf8_all (drop n (chars text))))

-- what a loop over characters has gone through
pub map-same : (cs : List ℕ) → map (λ c. c) cs ≡ cs
map-same [] = refl
map-same (c ∷ cs) = ap (λ rest. c ∷ rest) (map-same cs)

pub HasRoom-so_far : (text cs : List ℕ) → IsUtf8 text → cs ≡ take (length cs) (chars text) → length text < 2 ^ 63 → HasRoom (position_after cs)
HasRoom-so_far text cs utf8 so_far short =
    let within = length-encodes-take text (length cs) utf8 in
    let same = ap (λ xs. length (encode_utf8_all xs)) so_far in
    HasRoom-within cs (omega arith)

-- ---- the position of an offset

pub offset-position_after : (text : List ℕ) (n : ℕ) → IsUtf8 text → IsCharBoundary text n → (position_after (chars (take n text))).offset ≡ n
offset-position_after text n utf8 boundary =
    ap length (encodes-chars (take n text) (IsUtf8-take text n utf8 boundary)) ∙ length-take-le n text boundary.0
