-- Writing the runs of a text between characters that have entities.
use Rattle.std.proofs.Common.{◌≡◌, ℕ, ◌+◌, ◌-◌, ◌<◌, ◌≤◌, [], ◌∷◌, ◌++◌, take, drop, get_or, length, refl, sym, ap, ap₂, ◌∙◌, subst, arith, append_assoc, append-nil, Option, Some, None, unwrap_or, length-drop, get_or-drop, add-one, drop-cons}
use Rattle.std.specs.Str.{IsCharBoundary, IsUtf8}
use Rattle.std.proofs.lemmas.Str.{IsCharBoundary-after_ascii}
use Rattle.std.proofs.lemmas.List.{take_more, take_all, drop_all, take-append-drop}
use Rattle.handlebars_base.specs.Bytes.{Text}
use Rattle.handlebars_base.specs.Escape.{NeedsNoEscape, entity_of, escaped_byte, escaped}
use Rattle.handlebars_base.proofs.EscapedBytes.{entity_is_ascii, escaped-append}

-- what is left at a byte, if the run before it isn't written yet
abbrev pub left_at : Text → ℕ → ℕ → Text
left_at text written at = take (at - written) (drop written text) ++ escaped (drop at text)

escaped-drop : (text : Text) (at : ℕ) → at < length text
    → escaped (drop at text) ≡ escaped_byte (get_or text at 0) ++ escaped (drop (at + 1) text)
unfolding escaped
escaped-drop text at l = rw (add-one, drop-cons text at 0 l) refl

run-more : (text : Text) (written at : ℕ) → written ≤ at → at < length text
    → take (at + 1 - written) (drop written text) ≡ take (at - written) (drop written text) ++ get_or text at 0 ∷ []
run-more text written at w l =
    let inside : at - written < length (drop written text) = omega (arith, length-drop written text) in
    let count : at + 1 - written ≡ at - written + 1 = omega arith in
    let offset : written + (at - written) ≡ at = omega arith in
    ap (λ n. take n (drop written text)) count ∙ take_more (drop written text) (at - written) 0 inside
    ∙ ap (λ b. take (at - written) (drop written text) ++ b ∷ [])
    (get_or-drop written text (at - written) 0 ∙ ap (λ n. get_or text n 0) offset)

-- what is read in the bytes of the text is read in the text
entity_of-read : {x : Option Text} (text bytes : Text) (at : ℕ) → bytes ≡ text → x ≡ entity_of (get_or bytes at 0)
    → x ≡ entity_of (get_or text at 0)
entity_of-read text bytes at is e = e ∙ ap (λ t. entity_of (get_or t at 0)) is

-- past a byte with no entity
pub left_at-plain : (text bytes : Text) (written at : ℕ) → bytes ≡ text → written ≤ at → at < length bytes
    → None ≡ entity_of (get_or bytes at 0) → left_at text written at ≡ left_at text written (at + 1)
left_at-plain text bytes written at is w l e =
    let b = get_or text at 0 in
    let run = take (at - written) (drop written text) in
    let rest = escaped (drop (at + 1) text) in
    let inside : at < length text = subst (λ t. at < length t) is l in
    let itself : escaped_byte b ≡ b ∷ [] = ap (λ r. unwrap_or r (b ∷ [])) (sym (entity_of-read text bytes at is e)) in
    ap (λ t. run ++ t) (escaped-drop text at inside ∙ ap (λ t. t ++ rest) itself)
    ∙ sym (append_assoc run (b ∷ []) rest)
    ∙ ap (λ t. t ++ rest) (sym (run-more text written at w inside))

-- past a byte with an entity
pub left_at-entity : (text bytes run entity : Text) (written at : ℕ) → bytes ≡ text
    → run ≡ take (at - written) (drop written text) → at < length bytes → Some entity ≡ entity_of (get_or bytes at 0)
    → left_at text written at ≡ run ++ (entity ++ left_at text (at + 1) (at + 1))
left_at-entity text bytes run entity written at is is_run l e =
    let b = get_or text at 0 in
    let rest = escaped (drop (at + 1) text) in
    let is_entity : escaped_byte b ≡ entity = ap (λ r. unwrap_or r (b ∷ [])) (sym (entity_of-read text bytes at is e)) in
    let nothing : at + 1 - (at + 1) ≡ 0 = omega arith in
    ap₂ (λ s t. s ++ t) (sym is_run) (escaped-drop text at (subst (λ t. at < length t) is l)
    ∙ ap₂ (λ s t. s ++ t) is_entity (sym (ap (λ n. take n (drop (at + 1) text) ++ rest) nothing)))

-- a text may be split after it
pub boundary-entity : (text bytes entity : Text) (at : ℕ) → IsUtf8 text → bytes ≡ text → at < length bytes
    → Some entity ≡ entity_of (get_or bytes at 0) → IsCharBoundary text (at + 1)
boundary-entity text bytes entity at u is l e =
    IsCharBoundary-after_ascii text at u (subst (λ t. at < length t) is l)
    (entity_is_ascii _ entity (sym (entity_of-read text bytes at is e)))

-- at the end only a run is left
pub left_at-end : (text bytes run : Text) (written at : ℕ) → bytes ≡ text → run ≡ drop written text → length bytes ≤ at
    → left_at text written at ≡ run
unfolding escaped
left_at-end text bytes run written at is is_run l =
    let past : length text ≤ at = subst (λ t. length t ≤ at) is l in
    let none : escaped (drop at text) ≡ [] = ap escaped (drop_all at text past) in
    let all : take (at - written) (drop written text) ≡ drop written text =
    take_all (at - written) (drop written text) (omega (arith, length-drop written text)) in
    ap₂ (λ s t. s ++ t) all none ∙ append-nil (drop written text) ∙ sym is_run

-- ---- what precedes the first entity

pub escaped-nil : escaped [] ≡ []
unfolding escaped
escaped-nil = refl

escaped-one : (b : ℕ) → None ≡ entity_of b → escaped (b ∷ []) ≡ b ∷ []
unfolding escaped
escaped-one b e = append-nil (escaped_byte b) ∙ ap (λ r. unwrap_or r (b ∷ [])) (sym e)

-- one more byte with no entity
pub plain-more : (text : Text) (at : ℕ) → at < length text → None ≡ entity_of (get_or text at 0)
    → escaped (take at text) ≡ take at text → escaped (take (at + 1) text) ≡ take (at + 1) text
plain-more text at l e plain =
    let b = get_or text at 0 in
    let more = take_more text at 0 l in
    ap escaped more ∙ escaped-append (take at text) (b ∷ []) ∙ ap₂ (λ s t. s ++ t) plain (escaped-one b e) ∙ sym more

pub is_plain-end : (text : Text) (at : ℕ) → length text ≤ at → escaped (take at text) ≡ take at text → NeedsNoEscape text (length text)
is_plain-end text at past plain =
    let all = take_all at text past in
    let whole = take_all (length text) text (omega arith) in
    record { within = omega arith; plain = ap escaped (whole ∙ sym all) ∙ plain ∙ all ∙ sym whole }

-- it is a run that is not written yet
pub left_at-prefix : (text : Text) (plain : ℕ) → NeedsNoEscape text plain → escaped text ≡ left_at text 0 plain
left_at-prefix text plain h =
    let prefix : take plain text ≡ take (plain - 0) text = ap (λ n. take n text) (omega arith) in
    ap escaped (sym (take-append-drop plain text)) ∙ escaped-append (take plain text) (drop plain text)
    ∙ ap (λ t. t ++ escaped (drop plain text)) (h.plain ∙ prefix)
