-- Suffixes of a text, and what precedes them.
use Rattle.std.proofs.Common.{◌≡◌, ℕ, ◌-◌, ◌≤◌, [], ◌∷◌, ◌++◌, length, take, drop, Some, refl, sym, ap, ◌∙◌, append_assoc, arith, length-append}
use Rattle.std.specs.Str.{IsCharBoundary, IsUtf8}
use Rattle.std.proofs.lemmas.List.{take_at, take-append-drop}
use Rattle.std.proofs.lemmas.Str.{IsCharBoundary-at_seam}
use Rattle.handlebars_base.specs.Bytes.{Text, after_white}
use Rattle.handlebars_base.specs.Texts.{IsSuffix, after_byte}
use Rattle.handlebars_base.proofs.Prefixes.{after_byte_takes, after_white-skips}

pub end-all : (t : Text) → IsSuffix t t
end-all t = ([], refl)

pub end-after : (t r s : Text) → IsSuffix t r → IsSuffix r s → IsSuffix t s
end-after t r s h k = (h.0 ++ k.0, h.1 ∙ ap (λ (z : Text). h.0 ++ z) k.1 ∙ sym (append_assoc h.0 k.0 s))

pub end-after_byte : (c : ℕ) (t r : Text) → after_byte c t ≡ Some r → IsSuffix t r
end-after_byte c t r e = (c ∷ [], after_byte_takes c t r e)

pub end-white : (t : Text) → IsSuffix t (after_white t)
end-white t = let h = after_white-skips t in (h.white, h.whole)

pub end-drop : (n : ℕ) (t : Text) → IsSuffix t (drop n t)
end-drop n t = (take n t, sym (take-append-drop n t))

pub end-after_white : (c : ℕ) (t r : Text) → after_byte c t ≡ Some r → IsSuffix t (after_white r)
end-after_white c t r e = end-after t r (after_white r) (end-after_byte c t r e) (end-white r)

pub IsCharBoundary-end : (t v : Text) → IsUtf8 v → IsSuffix t v → IsCharBoundary t (length t - length v)
IsCharBoundary-end t v utf8 cut =
    let len : length t - length v ≡ length cut.0 = omega (arith, ap length cut.1, length-append cut.0 v) in
    rw len (IsCharBoundary-at_seam t cut.0 v cut.1 utf8)

pub length-end : (t r : Text) → IsSuffix t r → length r ≤ length t
length-end t r h = omega (arith, ap length h.1, length-append h.0 r)

-- ---- what precedes a suffix

pub length-prefix : (t a rest : Text) → t ≡ a ++ rest → length t - length rest ≡ length a
length-prefix t a rest whole = omega (arith, ap length whole, length-append a rest)

pub take-prefix : (t a rest : Text) → t ≡ a ++ rest → take (length t - length rest) t ≡ a
take-prefix t a rest whole =
    ap (λ (z : Text). take (length t - length rest) z) whole
    ∙ take_at a rest (length t - length rest) (sym (length-prefix t a rest whole))

-- the suffix of four texts that are joined
pub regroup_four : (a b c d : Text) → a ++ (b ++ (c ++ d)) ≡ (a ++ (b ++ c)) ++ d
regroup_four a b c d = simp append_assoc
