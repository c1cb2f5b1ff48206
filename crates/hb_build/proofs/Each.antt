-- `AllByRecursion`, of joined lists and of facts that follow from others.
use Rattle.std.proofs.Common.{List, [], ◌∷◌, ◌++◌}
use Rattle.std.specs.List.{AllByRecursion}

pub each_append : {X : Type 0} (Q : X → Type 0) (xs ys : List X) → AllByRecursion Q xs → AllByRecursion Q ys → AllByRecursion Q (xs ++ ys)
each_append Q [] ys h k = k
each_append Q (x ∷ xs) ys h k = (h.0, each_append Q xs ys h.1 k)

pub each_front : {X : Type 0} (Q : X → Type 0) (xs ys : List X) → AllByRecursion Q (xs ++ ys) → AllByRecursion Q xs
each_front Q [] ys h = tt
each_front Q (x ∷ xs) ys h = (h.0, each_front Q xs ys h.1)

pub each_back : {X : Type 0} (Q : X → Type 0) (xs ys : List X) → AllByRecursion Q (xs ++ ys) → AllByRecursion Q ys
each_back Q [] ys h = h
each_back Q (x ∷ xs) ys h = each_back Q xs ys h.1

pub each_weaker : {X : Type 0} (Q R : X → Type 0) (xs : List X) → ((x : X) → Q x → R x) → AllByRecursion Q xs → AllByRecursion R xs
each_weaker Q R [] w h = tt
each_weaker Q R (x ∷ xs) w h = (w x h.0, each_weaker Q R xs w h.1)

pub each_from_both : {X : Type 0} (Q R T : X → Type 0) (xs : List X) → ((x : X) → Q x → R x → T x) → AllByRecursion Q xs → AllByRecursion R xs
    → AllByRecursion T xs
each_from_both Q R T [] w h k = tt
each_from_both Q R T (x ∷ xs) w h k = (w x h.0 k.0, each_from_both Q R T xs w h.1 k.1)
