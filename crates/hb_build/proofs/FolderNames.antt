-- The folders of an acceptable name are acceptable.
use Rattle.std.proofs.Common.{◌≡◌, ℕ, ◌<◌, ◌==◌, Bool, true, false, cond, List, [], ◌∷◌, ◌++◌, length, refl, ap, subst, ◌∙◌, arith, length-append}
use Rattle.std.specs.List.{All, onto_first}
use Rattle.std.proofs.lemmas.List.{get_or_append_left}
use Rattle.std.proofs.lemmas.List.Splits.{length-slice_split}
use Rattle.hb_build.specs.Name.{Name, parts, IsAcceptable, IsFolderOf, IsPart}

is_slash : ℕ → Bool
is_slash b = b == 47

onto_first-append : (x : ℕ) (xs ys : List Name) → 0 < length xs → onto_first x (xs ++ ys) ≡ onto_first x xs ++ ys
onto_first-append x [] ys l = absurd (omega arith)
onto_first-append x (part ∷ xs) ys l = refl

parts-append : (f rest : Name) → parts (f ++ 47 ∷ rest) ≡ parts f ++ parts rest
parts-append [] rest = refl
parts-append (x ∷ f) rest = go (parts-append f rest) (x == 47) where
  go : parts (f ++ 47 ∷ rest) ≡ parts f ++ parts rest → (b : Bool) → cond b ([] ∷ parts (f ++ 47 ∷ rest)) (onto_first x (parts (f ++ 47 ∷ rest)))
      ≡ cond b ([] ∷ parts f) (onto_first x (parts f)) ++ parts rest
  go more true = ap (λ ps. [] ∷ ps) more
  go more false = ap (onto_first x) more ∙ onto_first-append x (parts f) (parts rest) (omega (arith, length-slice_split (λ b. b == 47) f))

All-front : {X : Type 0} (Q : X → Type 0) (xs ys : List X) → All Q (xs ++ ys) → All Q xs
All-front Q xs ys h k d l = subst Q (get_or_append_left xs ys d k l) (h k d (omega (arith, length-append xs ys)))

pub IsAcceptable-folder : (f name : Name) → IsFolderOf f name → IsAcceptable name → IsAcceptable f
IsAcceptable-folder f name is_folder h =
    All-front IsPart (parts f) (parts is_folder.0) (subst (All IsPart) (ap parts is_folder.1 ∙ parts-append f is_folder.0) h)
