-- The lines of a text, and its indentation.
use Rattle.std.proofs.Common.{◌≡◌, ◌≢◌, ℕ, suc, ◌+◌, ◌-◌, ◌<◌, ◌≤◌, Bool, true, false, [], ◌∷◌, ◌++◌, length, get_or, take, drop, List, refl, sym, ap, ap₂, ◌∙◌, subst, arith, append_assoc, append-nil, inl, inr, length-drop, get_or-drop, drop-drop, rules, zero}
use Rattle.std.specs.Prelude.{◌==◌, if◌then◌else◌}
use Rattle.std.specs.List.{AllByRecursion}
use Rattle.std.specs.Str.{IsCharBoundary, IsUtf8}
use Rattle.std.proofs.lemmas.Bool.{cases_Bool, eqb-false, eqb-true, ne_eqb}
use Rattle.std.proofs.lemmas.List.{take_more, take-append-drop}
use Rattle.std.proofs.lemmas.Str.{IsCharBoundary-after_ascii}
use Rattle.handlebars_base.specs.Bytes.{Text, newline}
use Rattle.handlebars_base.specs.Escape.{escaped, escaped_byte}
use Rattle.handlebars_base.specs.Shown.{escaped_if}
use Rattle.handlebars_base.proofs.EscapedBytes.{by_bytes, escaped_byte-other, escaped-append}
use Rattle.handlebars_scope.specs.Indentation.{longer, lines_of, between, indented, takes_indent, written_in}
use Rattle.handlebars_scope.specs.LineState.{LineState}

-- no newline
abbrev pub HasNoNewline : Text → Type 0
HasNoNewline t = AllByRecursion (λ b. b ≢ newline) t

between-longer : (indent : Text) (b : ℕ) (ls : List Text) → between indent (longer b ls) ≡ b ∷ between indent ls
between-longer indent b [] = refl
between-longer indent b (l ∷ []) = refl
between-longer indent b (l ∷ m ∷ ls) = refl

-- past a byte that ends no line
indented-byte : (indent : Text) (b : ℕ) (t : Text) → b ≢ newline → indented indent (b ∷ t) ≡ b ∷ indented indent t
indented-byte indent b t other = rw (ne_eqb b newline other) (between-longer indent b (lines_of t))

pub indented-unbroken : (indent u t : Text) → HasNoNewline u → indented indent (u ++ t) ≡ u ++ indented indent t
indented-unbroken indent [] t all = refl
indented-unbroken indent (b ∷ u) t all =
    indented-byte indent b (u ++ t) all.0 ∙ ap (λ s. b ∷ s) (indented-unbroken indent u t all.1)

-- a byte alone
pub indented-one : (indent : Text) (b : ℕ) → indented indent (b ∷ []) ≡ b ∷ []
indented-one indent b = elim (cases_Bool (b == newline)) [
  | inl is ↦ rw is refl
  | inr is ↦ rw is refl
]

-- after a newline
indented-first : (indent l : Text) (c : ℕ) (ls : List Text) → between indent (l ∷ longer c ls) ≡ l ++ (indent ++ between indent (longer c ls))
indented-first indent l c [] = refl
indented-first indent l c (m ∷ ls) = refl

pub indented-newline : (indent : Text) (c : ℕ) (t : Text)
    → indented indent (newline ∷ c ∷ t) ≡ newline ∷ (indent ++ indented indent (c ∷ t))
indented-newline indent c t = elim (cases_Bool (c == newline)) [
  | inl is ↦ rw is refl
  | inr is ↦ rw is (indented-first indent (newline ∷ []) c (lines_of t))
]

-- without an indentation the text is unchanged
pub indented-none : (t : Text) → indented [] t ≡ t
indented-none [] = refl
indented-none (b ∷ []) = indented-one [] b
indented-none (b ∷ c ∷ t) = elim (cases_Bool (b == newline)) [
  | inl is ↦ rw (eqb-true b newline is) (indented-newline [] c t ∙ ap (λ s. newline ∷ s) (indented-none (c ∷ t)))
  | inr is ↦ indented-byte [] b (c ∷ t) (eqb-false b newline is) ∙ ap (λ s. b ∷ s) (indented-none (c ∷ t))
]

-- ---- a line split off

some-byte : (t : Text) → 0 < length t → t ≡ get_or t 0 0 ∷ drop 1 t
some-byte [] some = absurd (omega arith)
some-byte (b ∷ t) some = refl

indented-cut : (indent u t : Text) → HasNoNewline u → 0 < length t
    → indented indent ((u ++ newline ∷ []) ++ t) ≡ (u ++ newline ∷ []) ++ (indent ++ indented indent t)
indented-cut indent u t all some =
    let here : t ≡ get_or t 0 0 ∷ drop 1 t = some-byte t some in
    ap (indented indent) (append_assoc u (newline ∷ []) t)
    ∙ indented-unbroken indent u (newline ∷ t) all
    ∙ ap (λ s. u ++ s) (subst (λ z. indented indent (newline ∷ z) ≡ newline ∷ (indent ++ indented indent z)) (sym here)
    (indented-newline indent (get_or t 0 0) (drop 1 t)))
    ∙ sym (append_assoc u (newline ∷ []) (indent ++ indented indent t))

-- ---- escaped

escaped-byte_unbroken : (b : ℕ) → b ≢ newline → (t : Text) → HasNoNewline t → HasNoNewline (escaped_byte b ++ t)
escaped-byte_unbroken b other t all = by_bytes (λ b. b ≢ newline → HasNoNewline (escaped_byte b ++ t))
    (λ o. search rules) (λ o. search rules) (λ o. search rules) (λ o. search rules) (λ o. search rules) (λ o. search rules) (λ o. search rules)
    (λ b is o. subst (λ s. HasNoNewline (s ++ t)) (sym (escaped_byte-other b is)) (o, all)) b other

escaped-unbroken : (t : Text) → HasNoNewline t → HasNoNewline (escaped t)
unfolding escaped
escaped-unbroken [] all = tt
escaped-unbroken (b ∷ t) all = escaped-byte_unbroken b all.0 (escaped t) (escaped-unbroken t all.1)

if-unbroken : (e : Bool) (t : Text) → HasNoNewline t → HasNoNewline (escaped_if e t)
if-unbroken true t all = escaped-unbroken t all
if-unbroken false t all = all

if-append : (e : Bool) (u t : Text) → escaped_if e (u ++ t) ≡ escaped_if e u ++ escaped_if e t
if-append true u t = escaped-append u t
if-append false u t = refl

escaped-newline : escaped (newline ∷ []) ≡ newline ∷ []
unfolding escaped
escaped-newline = refl

if-newline : (e : Bool) → escaped_if e (newline ∷ []) ≡ newline ∷ []
if-newline true = escaped-newline
if-newline false = refl

escaped-some : (b : ℕ) (t : Text) → 0 < length (escaped (b ∷ t))
unfolding escaped
escaped-some b t = by_bytes (λ b. 0 < length (escaped_byte b ++ escaped t)) (omega arith) (omega arith) (omega arith) (omega arith) (omega arith) (omega arith) (omega arith)
    (λ b is. subst (λ s. 0 < length (s ++ escaped t)) (sym (escaped_byte-other b is)) (omega arith)) b

if-some : (e : Bool) (t : Text) → 0 < length t → 0 < length (escaped_if e t)
if-some e [] some = absurd (omega arith)
if-some true (b ∷ t) some = escaped-some b t
if-some false (b ∷ t) some = some

escaped-alone : (b : ℕ) → escaped (b ∷ []) ≡ escaped_byte b
unfolding escaped
escaped-alone b = append-nil (escaped_byte b)

one-escaped : (indent : Text) (b : ℕ) → indented indent (escaped_byte b) ≡ escaped_byte b
one-escaped indent = by_bytes (λ b. indented indent (escaped_byte b) ≡ escaped_byte b) refl refl refl refl refl refl refl
    (λ b is. subst (λ s. indented indent s ≡ s) (sym (escaped_byte-other b is)) (indented-one indent b))

if-one : (indent : Text) (e : Bool) (b : ℕ) → indented indent (escaped_if e (b ∷ [])) ≡ escaped_if e (b ∷ [])
if-one indent true b = ap (indented indent) (escaped-alone b) ∙ one-escaped indent b ∙ sym (escaped-alone b)
if-one indent false b = indented-one indent b

if-none : (e : Bool) → escaped_if e [] ≡ []
unfolding escaped
if-none true = refl
if-none false = refl

-- a line that has no newline, except perhaps at its end
indented-line : (indent : Text) (e : Bool) (n : ℕ) (t : Text) → length t ≤ n + 1 → HasNoNewline (take n t)
    → indented indent (escaped_if e t) ≡ escaped_if e t
indented-line indent e n [] le all = rw (if-none e) refl
indented-line indent e n (b ∷ []) le all = if-one indent e b
indented-line indent e zero (b ∷ c ∷ t) le all = absurd (omega arith)
indented-line indent e (suc n) (b ∷ c ∷ t) le all =
    rw (if-append e (b ∷ []) (c ∷ t))
    (indented-unbroken indent (escaped_if e (b ∷ [])) (escaped_if e (c ∷ t)) (if-unbroken e (b ∷ []) (all.0, tt))
    ∙ ap (λ s. escaped_if e (b ∷ []) ++ s) (indented-line indent e n (c ∷ t) (omega arith) all.1))

-- ---- the loop

-- what is left at a byte from which on nothing is written
abbrev pub left_from : Text → Bool → Text → ℕ → Text
left_from indent e text written = indented indent (escaped_if e (drop written text))

-- the line that is being read, without the byte before the position
abbrev pub read_line : Text → ℕ → ℕ → Text
read_line text written at = take (at - 1 - written) (drop written text)

pub read-more : (text : Text) (written at : ℕ) → written < at → at ≤ length text
    → take (at - written) (drop written text) ≡ read_line text written at ++ get_or text (at - 1) 0 ∷ []
read-more text written at w l =
    let inside : at - 1 - written < length (drop written text) = omega (arith, length-drop written text) in
    let count : at - written ≡ at - 1 - written + 1 = omega arith in
    let offset : written + (at - 1 - written) ≡ at - 1 = omega arith in
    ap (λ n. take n (drop written text)) count ∙ take_more (drop written text) (at - 1 - written) 0 inside
    ∙ ap (λ b. read_line text written at ++ b ∷ [])
    (get_or-drop written text (at - 1 - written) 0 ∙ ap (λ n. get_or text n 0) offset)

unbroken-more : (t : Text) (b : ℕ) → HasNoNewline t → b ≢ newline → HasNoNewline (t ++ b ∷ [])
unbroken-more [] b all other = (other, tt)
unbroken-more (c ∷ t) b all other = (all.0, unbroken-more t b all.1 other)

-- past a byte that isn't a newline
pub line-more : (text bytes : Text) (written at : ℕ) → bytes ≡ text → written < at → at < length bytes
    → get_or bytes (at - 1) 0 ≢ newline → HasNoNewline (read_line text written at)
    → HasNoNewline (read_line text written (at + 1))
line-more text bytes written at is w l other all =
    let inside : at < length text = subst (λ t. at < length t) is l in
    let count : at + 1 - 1 - written ≡ at - written = omega arith in
    subst HasNoNewline (sym (ap (λ n. take n (drop written text)) count ∙ read-more text written at w (omega arith)))
    (unbroken-more (read_line text written at) _ all (λ e. other (ap (λ (t : Text). get_or t (at - 1) 0) is ∙ e)))

-- past a newline
pub line-cut : (indent text bytes run : Text) (e : Bool) (written at : ℕ) → bytes ≡ text
    → run ≡ take (at - written) (drop written text) → written < at → at < length bytes
    → get_or bytes (at - 1) 0 ≡ newline → HasNoNewline (read_line text written at)
    → left_from indent e text written ≡ escaped_if e run ++ (indent ++ left_from indent e text at)
line-cut indent text bytes run e written at is is_run w l here all =
    let inside : at < length text = subst (λ t. at < length t) is l in
    let u : Text = read_line text written at in
    let line : run ≡ u ++ newline ∷ [] = is_run ∙ read-more text written at w (omega arith)
    ∙ ap (λ b. u ++ b ∷ []) (ap (λ (t : Text). get_or t (at - 1) 0) (sym is) ∙ here) in
    let whole : drop written text ≡ run ++ drop at text = split-at text run written at is_run w (omega arith) in
    let shown : escaped_if e run ≡ escaped_if e u ++ newline ∷ [] = ap (escaped_if e) line ∙ if-append e u (newline ∷ [])
    ∙ ap (λ s. escaped_if e u ++ s) (if-newline e) in
    ap (λ t. indented indent (escaped_if e t)) whole
    ∙ ap (indented indent) (if-append e run (drop at text) ∙ ap (λ s. s ++ escaped_if e (drop at text)) shown)
    ∙ indented-cut indent (escaped_if e u) (escaped_if e (drop at text)) (if-unbroken e u all)
    (if-some e (drop at text) (omega (arith, length-drop at text)))
    ∙ ap (λ s. s ++ (indent ++ left_from indent e text at)) (sym shown)
  where
    split-at : (text run : Text) (written at : ℕ) → run ≡ take (at - written) (drop written text) → written < at → at ≤ length text
        → drop written text ≡ run ++ drop at text
    split-at text run written at is w l =
        sym (take-append-drop (at - written) (drop written text))
        ∙ ap₂ (λ s t. s ++ t) (sym is) (drop-drop (at - written) written text ∙ ap (λ n. drop n text) (omega arith))

-- at the end one line is left
pub line-end : (indent text bytes run : Text) (e : Bool) (written at : ℕ) → bytes ≡ text → run ≡ drop written text
    → length bytes ≤ at → HasNoNewline (read_line text written at)
    → left_from indent e text written ≡ escaped_if e run
line-end indent text bytes run e written at is is_run l all =
    let past : length text ≤ at = subst (λ t. length t ≤ at) is l in
    indented-line indent e (at - 1 - written) (drop written text) (omega (arith, length-drop written text)) all
    ∙ ap (escaped_if e) (sym is_run)

-- a text may be split after a newline
pub boundary-cut : (text bytes : Text) (at : ℕ) → IsUtf8 text → bytes ≡ text → at < length bytes → (written : ℕ)
    → written < at → get_or bytes (at - 1) 0 ≡ newline → IsCharBoundary text at
boundary-cut text bytes at u is l written w here =
    let before : at - 1 + 1 ≡ at = omega arith in
    let inside : at - 1 < length text = subst (λ t. at - 1 < length t) is (omega arith) in
    let low : get_or text (at - 1) 0 < 128 = omega (arith, ap (λ (t : Text). get_or t (at - 1) 0) is, here) in
    subst (λ n. IsCharBoundary text n) before (IsCharBoundary-after_ascii text (at - 1) u inside low)

-- nothing is read of a line at its first byte
pub line-none : (text : Text) (at : ℕ) → HasNoNewline (read_line text at (at + 1))
line-none text at =
    let none : at + 1 - 1 - at ≡ 0 = omega arith in
    subst (λ n. HasNoNewline (take n (drop at text))) (sym none) tt

-- ---- in a line

nothing-before : (b : Bool) → Path Text (if b then [] else []) []
nothing-before true = refl
nothing-before false = refl

pub is-empty : (t : Text) → (length t == 0) ≡ true → t ≡ []
is-empty [] is = refl
is-empty (b ∷ t) is = absurd (omega (arith, eqb-true (length (b ∷ t)) 0 is))

pub written_in-none : (indent : Text) (line : LineState) (t : Text) → indent ≡ [] → written_in indent line t ≡ t
written_in-none indent line t is = rw is (ap (λ s. s ++ indented [] t) (nothing-before (takes_indent line t)) ∙ indented-none t)

takes-escaped : (line : LineState) (t : Text) → takes_indent line (escaped t) ≡ takes_indent line t
unfolding escaped
takes-escaped line [] = refl
takes-escaped line (b ∷ t) = by_bytes (λ b. takes_indent line (escaped_byte b ++ escaped t) ≡ takes_indent line (b ∷ t))
    refl refl refl refl refl refl refl (λ b is. ap (λ s. takes_indent line (s ++ escaped t)) (escaped_byte-other b is)) b

takes-if : (line : LineState) (e : Bool) (t : Text) → takes_indent line (escaped_if e t) ≡ takes_indent line t
takes-if line true t = takes-escaped line t
takes-if line false t = refl

pub written_in-takes : (indent : Text) (line : LineState) (e : Bool) (t : Text) → takes_indent line t ≡ true
    → indent ++ indented indent (escaped_if e t) ≡ written_in indent line (escaped_if e t)
written_in-takes indent line e t is = rw (takes-if line e t, is) refl

pub written_in-goes_on : (indent : Text) (line : LineState) (e : Bool) (t : Text) → takes_indent line t ≡ false
    → indented indent (escaped_if e t) ≡ written_in indent line (escaped_if e t)
written_in-goes_on indent line e t is = rw (takes-if line e t, is) refl
