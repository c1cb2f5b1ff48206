-- One more element of a list, each element of which gives a text.
use Rattle.std.proofs.Common.{◌≡◌, ℕ, ◌+◌, ◌<◌, List, [], ◌∷◌, ◌++◌, length, get_or, take, map, flat_map, sym, ap, ◌∙◌, append-nil}
use Rattle.std.proofs.lemmas.List.{map-append, take_more}
use Rattle.std.proofs.lemmas.Grind.{flat_map-append}

pub flat_map-map-take_more : {X Y : Type 0} (h : Y → List ℕ) (v : X → Y) (xs : List X) (i : ℕ) (x : X) → i < length xs → x ≡ get_or xs i x
    → flat_map h (map v (take (i + 1) xs)) ≡ flat_map h (map v (take i xs)) ++ h (v x)
flat_map-map-take_more h v xs i x within is =
    ap (λ ys. flat_map h (map v ys)) (take_more xs i x within ∙ ap (λ y. take i xs ++ y ∷ []) (sym is))
    ∙ ap (flat_map h) (map-append v (take i xs) (x ∷ []))
    ∙ flat_map-append h (map v (take i xs)) (v x ∷ [])
    ∙ ap (λ text. flat_map h (map v (take i xs)) ++ text) (append-nil (h (v x)))
