-- The offset of a line and a column.
use Rattle.std.proofs.Common.{◌≡◌, ◌≢◌, ℕ, ◌+◌, ◌<◌, Bool, true, false, ◌&&◌, cond, List, [], ◌∷◌, ◌++◌, length, take, drop, get_or, refl, sym, ap, ◌∙◌, subst, arith, append_assoc, append-nil, chars, encode_utf8_all, IsCharBoundary, IsUtf8, suc, drop-cons}
use Rattle.std.specs.Char.{is_newline, len_utf8}
use Rattle.std.proofs.Math.Utf8.{scalar, scalars}
use Rattle.std.proofs.lemmas.Str.{IsCharBoundary-at_seam, encodes-append, encodes-chars, scalars-chars}
use Rattle.std.proofs.lemmas.List.{take-append-drop}
use Rattle.handlebars_report.specs.declared.position.Position.{Position}
use Rattle.handlebars_report.specs.Position.{IsAfter, IsOffsetOf, IsUpTo, position_after}
use Rattle.handlebars_report.specs.Stepping.{stepped}
use Rattle.handlebars_report.proofs.Positions.{position_after-push}

-- ---- more characters only lead further

IsAfter-stepped : (line column : ℕ) (p : Position) (c : ℕ) → IsAfter line column p → IsAfter line column (stepped p c)
IsAfter-stepped line column p c after = by (is_newline c)
  where
    by : (b : Bool) → IsAfter line column (cond b
        record { offset = p.offset + len_utf8 c; line = p.line + 1; column = 1 }
        record { offset = p.offset + len_utf8 c; line = p.line; column = p.column + 1 })
    by true = (omega arith, λ e. omega arith)
    by false = (after.0, λ e. omega (arith, after.1 e))

IsAfter-append : (line column : ℕ) (cs ds : List ℕ) → IsAfter line column (position_after cs) → IsAfter line column (position_after (cs ++ ds))
IsAfter-append line column cs [] after = subst (λ xs. IsAfter line column (position_after xs)) (sym (append-nil cs)) after
IsAfter-append line column cs (d ∷ ds) after =
    let next = subst (IsAfter line column) (sym (position_after-push cs d)) (IsAfter-stepped line column (position_after cs) d after) in
    subst (λ xs. IsAfter line column (position_after xs)) (append_assoc cs (d ∷ []) ds) (IsAfter-append line column (cs ++ d ∷ []) ds next)

-- ---- where the search for the offset ends

last-after : (line column : ℕ) (cs rest : List ℕ) (c : ℕ) → IsAfter line column (stepped (position_after cs) c)
    → (more others : List ℕ) → c ∷ rest ≡ more ++ others → more ≢ [] → IsAfter line column (position_after (cs ++ more))
last-after line column cs rest c after [] others e some = absurd (some refl)
last-after line column cs rest c after (d ∷ more) others e some =
    let same : c ≡ d = cc in
    let next = subst (IsAfter line column) (sym (position_after-push cs d)) (subst (λ x. IsAfter line column (stepped (position_after cs) x)) same after) in
    subst (λ xs. IsAfter line column (position_after xs)) (append_assoc cs (d ∷ []) more) (IsAfter-append line column (cs ++ d ∷ []) more next)

-- the search ends before a character that leads past the line and the column
pub IsOffsetOf-before : (text : List ℕ) (line column : ℕ) (cs rest : List ℕ) (c : ℕ) → chars text ≡ cs ++ c ∷ rest
    → IsUpTo line column (position_after cs) → IsAfter line column (stepped (position_after cs) c)
    → IsOffsetOf text line column (length (encode_utf8_all cs))
IsOffsetOf-before text line column cs rest c parts up_to after = record {
  before = cs;
  remaining = c ∷ rest;
  parts = parts;
  is = refl;
  up_to = up_to;
  last = last-after line column cs rest c after;
}

-- the search ends with the text
pub IsOffsetOf-all : (text : List ℕ) (line column : ℕ) → IsUpTo line column (position_after (chars text))
    → IsOffsetOf text line column (length (encode_utf8_all (chars text)))
IsOffsetOf-all text line column up_to = record {
  before = chars text;
  remaining = [];
  parts = sym (append-nil (chars text));
  is = refl;
  up_to = up_to;
  last = λ more rest e some. absurd (some (nothing more rest e));
}
  where
    nothing : (more rest : List ℕ) → [] ≡ more ++ rest → more ≡ []
    nothing [] rest e = refl
    nothing (x ∷ more) rest e = cc

-- a character of a list, between those before it and those after it
pub parts-at : (cs : List ℕ) (n c : ℕ) → n < length cs → c ≡ get_or cs n c → cs ≡ take n cs ++ c ∷ drop (suc n) cs
parts-at cs n c within is =
    sym (take-append-drop n cs) ∙ ap (λ xs. take n cs ++ xs) (drop-cons cs n c within ∙ ap (λ x. x ∷ drop (suc n) cs) (sym is))

-- ---- no character is cut there

and-right : (a b : Bool) → (a && b) ≡ true → b ≡ true
and-right true b both = both
and-right false b both = cc

scalars-after : (cs ds : List ℕ) → scalars (cs ++ ds) ≡ true → scalars ds ≡ true
scalars-after [] ds are = are
scalars-after (c ∷ cs) ds are = scalars-after cs ds (and-right (scalar c) (scalars (cs ++ ds)) are)

pub IsCharBoundary-from_IsOffsetOf : (text : List ℕ) (line column offset : ℕ) → IsUtf8 text → IsOffsetOf text line column offset → IsCharBoundary text offset
IsCharBoundary-from_IsOffsetOf text line column offset utf8 o =
    let parts = sym (encodes-chars text utf8) ∙ ap encode_utf8_all o.parts ∙ encodes-append o.before o.remaining in
    let rest = scalars-after o.before o.remaining (ap scalars (sym o.parts) ∙ scalars-chars text utf8) in
    subst (IsCharBoundary text) (sym o.is)
    (IsCharBoundary-at_seam text (encode_utf8_all o.before) (encode_utf8_all o.remaining) parts (o.remaining, (rest, refl)))
