-- The folders of a name, by the places of its `/`.
use Rattle.std.proofs.Common.{◌≡◌, ℕ, suc, ◌<◌, ◌∷◌, ◌++◌, length, get_or, take, drop, sym, ap, subst, ◌∙◌, arith, length-append, append_assoc, List}
use Rattle.std.specs.List.{slice_range}
use Rattle.std.proofs.Math.Seq.{drop-cons, get_or-append_seam, take-append_seam}
use Rattle.std.proofs.lemmas.List.{take-append-drop}
use Rattle.hb_build.specs.Name.{Name, IsFolderOf}

-- a folder stands before a `/`
pub folder_at : (f name : Name) → IsFolderOf f name → (length f < length name) × (get_or name (length f) 0 ≡ 47) × (take (length f) name ≡ f)
folder_at f name h =
    let shorter : length f < length (f ++ 47 ∷ h.0) = omega (arith, length-append f (47 ∷ h.0)) in
    rw h.1 (shorter, get_or-append_seam f 47 h.0 0, take-append_seam f (47 ∷ h.0))

-- what stands before a `/` is a folder
pub IsFolderOf-take : (name : Name) (i : ℕ) → i < length name → get_or name i 0 ≡ 47 → IsFolderOf (take i name) name
IsFolderOf-take name i l e = (
  drop (suc i) name,
  sym (take-append-drop i name) ∙ ap (λ t. take i name ++ t) (drop-cons name i 0 l ∙ ap (λ b. b ∷ drop (suc i) name) e),
)

-- what holds before each `/` holds of each folder
pub at_each_folder : (Q : Name → Type 0) (name : Name) → ((j : ℕ) → j < length name → get_or name j 0 ≡ 47 → Q (take j name))
    → (f : Name) → IsFolderOf f name → Q f
at_each_folder Q name h f is_folder =
    let at = folder_at f name is_folder in
    subst Q at.2 (h (length f) at.0 at.1)

-- the front of a text, as code slices it
pub slice_range-front : (xs : List ℕ) (n : ℕ) → slice_range xs 0 n ≡ take n xs
slice_range-front xs n = grind arith

-- what code slices off before a `/`
pub IsFolderOf-range : (name bytes : Name) (end : ℕ) (f : Name) → bytes ≡ name → end < length bytes → get_or bytes end 0 ≡ 47
    → f ≡ slice_range name 0 end → IsFolderOf f name
IsFolderOf-range name bytes end f same within slash is_range =
    subst (λ x. IsFolderOf x name) (sym (is_range ∙ slice_range-front name end))
    (IsFolderOf-take name end (subst (λ xs. end < length xs) same within) (ap (λ xs. get_or xs end 0) (sym same) ∙ slash))

-- a folder of a folder is one
pub IsFolderOf-trans : (f g name : Name) → IsFolderOf f g → IsFolderOf g name → IsFolderOf f name
IsFolderOf-trans f g name h k = (h.0 ++ 47 ∷ k.0, k.1 ∙ ap (λ t. t ++ 47 ∷ k.0) h.1 ∙ append_assoc f (47 ∷ h.0) (47 ∷ k.0))
