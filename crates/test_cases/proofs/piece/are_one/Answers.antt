use Rattle.std.proofs.Common.{◌≡◌, Bool, true, false, ◌&&◌, List, [], ◌∷◌, map, refl, sym, ◌∙◌, String, Global, string_bytes}
use Rattle.std.specs.Cmp.Lexicographic.{same_text}
use Rattle.std.specs.String.{string_eq}
use lib.Pointwise.{pointwise}
use Rattle.test_cases.proofs.piece.are_one.Goals as goal

both : (a b : Bool) → true ≡ (a && b) → (true ≡ a) × (true ≡ b)
both true b is = (refl, is)
both false b is = cc

one-texts : (xs ys : List (String Global)) → true ≡ pointwise string_eq xs ys → map string_bytes xs ≡ map string_bytes ys
one-texts [] [] same = refl
one-texts [] (y ∷ ys) same = cc
one-texts (x ∷ xs) [] same = cc
one-texts (x ∷ xs) (y ∷ ys) same =
    let h = both (string_eq x y) (pointwise string_eq xs ys) same in
    let first = same_text (string_bytes x) (string_bytes y) h.0 in
    λ i. first i ∷ one-texts xs ys h.1 i

pub returns : goal.returns
returns c = λ yes. one-texts _ _ (sym yes ∙ c.eq.ensures)
