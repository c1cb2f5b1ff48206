-- The targets of the inclusions so far, and of one more.
use Rattle.std.proofs.Common.{◌≡◌, ℕ, ◌+◌, ◌<◌, Bool, List, [], ◌∷◌, ◌++◌, length, map, take, get_or, refl, sym, ap, ◌∙◌, subst}
use Rattle.std.proofs.lemmas.List.{map_more}
use Rattle.handlebars_includes.specs.Graph as graph
use Rattle.handlebars_includes.specs.Graph.{targets}
use Rattle.handlebars_includes.specs.Reaching.{Extends, MarksOthers}
use Rattle.handlebars_includes.specs.View.{inclusion_view}
use Rattle.handlebars_includes.specs.declared.includes.Inclusion.{Inclusion}
use Rattle.handlebars_includes.proofs.Reached.{extends-more}
use Rattle.handlebars_includes.proofs.Paged.{others-more}

targets-push : (xs : List graph.Inclusion) (x : graph.Inclusion) → targets (xs ++ x ∷ []) ≡ targets xs ++ x.target ∷ []
targets-push [] x = refl
targets-push (y ∷ xs) x = ap (λ (z : List ℕ). y.target ∷ z) (targets-push xs x)

targets-more : (xs : List Inclusion) (i : ℕ) (d : Inclusion) → i < length xs
    → targets (map inclusion_view (take (i + 1) xs)) ≡ targets (map inclusion_view (take i xs)) ++ (get_or xs i d).target ∷ []
targets-more xs i d l =
    ap targets (map_more inclusion_view xs i d l) ∙ targets-push (map inclusion_view (take i xs)) (inclusion_view (get_or xs i d))

pub extends-next : (xs : List Inclusion) (i : ℕ) (d : Inclusion) (m0 m1 m2 : List Bool) (p0 p1 p2 : List ℕ) → i < length xs
    → Extends (targets (map inclusion_view (take i xs))) m0 p0 m1 p1 → Extends ((get_or xs i d).target ∷ []) m1 p1 m2 p2
    → Extends (targets (map inclusion_view (take (i + 1) xs))) m0 p0 m2 p2
extends-next xs i d m0 m1 m2 p0 p1 p2 l a b =
    subst (λ (ts : List ℕ). Extends ts m0 p0 m2 p2) (sym (targets-more xs i d l)) (extends-more _ _ m0 m1 m2 p0 p1 p2 a b)

pub others-next : (k : ℕ) (xs : List Inclusion) (i : ℕ) (d : Inclusion) (m0 m1 m2 : List Bool) → i < length xs
    → MarksOthers k (targets (map inclusion_view (take i xs))) m0 m1 → MarksOthers k ((get_or xs i d).target ∷ []) m1 m2
    → MarksOthers k (targets (map inclusion_view (take (i + 1) xs))) m0 m2
others-next k xs i d m0 m1 m2 l a b =
    subst (λ (ts : List ℕ). MarksOthers k ts m0 m2) (sym (targets-more xs i d l)) (others-more k _ _ m0 m1 m2 a b)
