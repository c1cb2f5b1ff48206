-- Paths within longer texts: what a path's text is like, and that the longest prefix that is a reference ends with the
-- path.
use Rattle.std.proofs.Common.{◌≡◌, ℕ, zero, suc, ◌+◌, Bool, true, false, not, List, [], ◌∷◌, ◌++◌, length, refl, sym, ap, subst, ◌∙◌, append_assoc, arith, inl, inr, length-append}
use Rattle.std.specs.Prelude.{◌==◌, ◌||◌, codes}
use Rattle.std.specs.List.{AllByRecursion}
use Rattle.std.proofs.lemmas.Bool.{not-true, or_parts}
use Rattle.handlebars_base.specs.Path.{Reference, IsPath, IsIdentifier, PathPart, dots, plain, bracketed, spelled_part, IsPathPart, is_dots, Link, spelled_links, AreLinks, ups, Shape, itself, at_root, at_name, in_parts, spelled_path, IsShape}
use Rattle.handlebars_base.specs.PathReading.{is_reference_byte, reference_from, reference_len}
use Rattle.handlebars_base.specs.Bytes.{is_symbol, left_bracket}
use Rattle.handlebars_base.proofs.PathParts.{joins_cases}
use Rattle.handlebars_base.proofs.Bytes.{other_byte}

-- ---- a reference contains the whole of a path

-- A reference contains all of this text, and continues from its end.
pub record IsPassed (text : List ℕ) : Type 0 where
  pub passes : (follow : List ℕ) → reference_len (text ++ follow) ≡ length text + reference_len follow

passed_none : IsPassed []
passed_none = record { passes = λ follow. omega arith }

passed_both : (a b : List ℕ) → IsPassed a → IsPassed b → IsPassed (a ++ b)
passed_both a b p q =
    record {
      passes = λ follow.
          ap reference_len (append_assoc a b follow) ∙ p.passes (b ++ follow) ∙
          omega (arith, q.passes follow, length-append a b);
    }

passed_byte : (x : ℕ) (t : List ℕ) → is_reference_byte x ≡ true → (x == 91) ≡ false → IsPassed t → IsPassed (x ∷ t)
unfolding reference_from
passed_byte x t on other p = record { passes = λ follow. rw (other, on) (omega (arith, p.passes follow)) }

symbol_passes : (x : ℕ) → is_symbol x ≡ true → is_reference_byte x ≡ true
symbol_passes x h = rw h refl

passed_symbols : (n : List ℕ) → AllByRecursion (λ b. is_symbol b ≡ true) n → IsPassed n
passed_symbols [] all = passed_none
passed_symbols (x ∷ xs) all =
    passed_byte x xs (symbol_passes x all.0) (other_byte is_symbol 91 refl x all.0) (passed_symbols xs all.1)

inside : (n follow : List ℕ) → AllByRecursion (λ b. not (b == 93) ≡ true) n →
    reference_from true (n ++ 93 ∷ follow) ≡ suc (length n + reference_len follow)
unfolding reference_from
inside [] follow all = omega arith
inside (x ∷ xs) follow all = rw (not-true (x == 93) all.0, inside xs follow all.1) (omega arith)

passed_bracketed : (n : List ℕ) → AllByRecursion (λ b. not (b == 93) ≡ true) n → IsPassed (91 ∷ (n ++ 93 ∷ []))
unfolding reference_from
passed_bracketed n all =
    record {
      passes = λ follow.
          rw (append_assoc n (93 ∷ []) follow, inside n follow all) (omega (arith, length-append n (93 ∷ [])));
    }

passed_part : (p : PathPart) → IsPathPart p → IsPassed (spelled_part p)
passed_part dots fits = passed_byte 46 (46 ∷ []) refl refl (passed_byte 46 [] refl refl passed_none)
passed_part (plain n) fits = passed_symbols n fits.1
passed_part (bracketed n) fits = passed_bracketed n fits

passed_links : (before : Bool) (ss : List Link) → AreLinks before ss → IsPassed (spelled_links ss)
passed_links before [] fits = passed_none
passed_links before (s ∷ ss) fits =
    let more = passed_links (is_dots s.part) ss fits.2 in
    let after = passed_both (spelled_part s.part) (spelled_links ss) (passed_part s.part fits.1) more in
    elim (joins_cases before s.sep (is_dots s.part) fits.0) [
      | inl slash ↦ rw slash (passed_byte 47 _ refl refl after)
      | inr point ↦ rw point.0 (passed_byte 46 _ refl refl after)
    ]

passed_ups : (n : ℕ) (t : List ℕ) → IsPassed t → IsPassed (ups n ++ t)
passed_ups zero t p = p
passed_ups (suc n) t p =
    passed_byte 46 _ refl refl (passed_byte 46 _ refl refl (passed_byte 47 _ refl refl (passed_ups n t p)))

passed_name : (n : ℕ) (name : List ℕ) (ss : List Link) → IsIdentifier name → AreLinks false ss →
    IsPassed (64 ∷ (ups n ++ (name ++ spelled_links ss)))
passed_name n name ss id fits =
    let after = passed_both name (spelled_links ss) (passed_symbols name id.1) (passed_links false ss fits) in
    passed_byte 64 _ refl refl (passed_ups n (name ++ spelled_links ss) after)

passed_parts : (p : PathPart) (ss : List Link) → IsPathPart p → AreLinks (is_dots p) ss →
    IsPassed (spelled_part p ++ spelled_links ss)
passed_parts p ss fits links =
    passed_both (spelled_part p) (spelled_links ss) (passed_part p fits) (passed_links (is_dots p) ss links)

passed_shape : (s : Shape) → IsShape s → IsPassed (spelled_path s)
passed_shape itself fits = passed_byte 46 [] refl refl passed_none
passed_shape (at_root ss) fits =
    passed_name 0 (codes "root") ss (λ e. absurd cc, (refl, (refl, (refl, (refl, tt))))) fits
passed_shape (at_name zero name ss) fits = passed_name 0 name ss fits.0 fits.3
passed_shape (at_name (suc n) name ss) fits = passed_name (suc n) name ss fits.0 fits.2
passed_shape (in_parts true p ss) fits =
    passed_byte 46 _ refl refl (passed_byte 47 _ refl refl (passed_parts p ss fits.0 fits.1))
passed_shape (in_parts false p ss) fits = passed_parts p ss fits.0 fits.1

-- a reference contains a path, and continues after it
pub reference_len-append : (text follow : List ℕ) (means : Reference) → IsPath text means →
    reference_len (text ++ follow) ≡ length text + reference_len follow
reference_len-append text follow means h =
    let passed : IsPassed text = subst IsPassed (sym h.spells) (passed_shape h.shape h.fits) in
    passed.passes follow

-- a byte that a reference begins with: one of those, or an opening bracket
abbrev pub starts_reference : ℕ → Bool
starts_reference b = is_reference_byte b || b == left_bracket

-- the text begins with none of these, or is empty
abbrev pub ends_reference : List ℕ → Bool
ends_reference [] = true
ends_reference (x ∷ xs) = not (starts_reference x)

-- no reference continues in such a text
pub reference_len-stops : (t : List ℕ) → ends_reference t ≡ true → reference_len t ≡ 0
unfolding reference_from
reference_len-stops [] h = refl
reference_len-stops (x ∷ xs) h =
    let no = or_parts (is_reference_byte x) (x == 91) (not-true (starts_reference x) h) in
    rw (no.1, no.0) refl

-- ---- how a path begins

starts_part : (p : PathPart) (t : List ℕ) → IsPathPart p → ends_reference (spelled_part p ++ t) ≡ false
starts_part dots t fits = refl
starts_part (plain []) t fits = absurd (fits.0 refl)
starts_part (plain (x ∷ xs)) t fits = rw (fits.1.0) refl
starts_part (bracketed n) t fits = refl

starts_shape : (s : Shape) → IsShape s → ends_reference (spelled_path s) ≡ false
starts_shape itself fits = refl
starts_shape (at_root ss) fits = refl
starts_shape (at_name n name ss) fits = refl
starts_shape (in_parts true p ss) fits = refl
starts_shape (in_parts false p ss) fits = starts_part p (spelled_links ss) fits.0

-- a path begins with a byte that a reference begins with
pub ends_reference-path : (text : List ℕ) (means : Reference) → IsPath text means → ends_reference text ≡ false
ends_reference-path text means h = ap ends_reference h.spells ∙ starts_shape h.shape h.fits
