-- The mentions of a template so far, and one more.
use Rattle.std.proofs.Common.{◌≡◌, ◌||◌, ℕ, ◌+◌, ◌<◌, Bool, true, false, List, [], ◌∷◌, ◌++◌, length, map, drop, get_or, refl, ap, ◌∙◌, subst, add-one}
use Rattle.std.specs.List.{list_any}
use Rattle.std.proofs.Math.Seq.{drop-cons}
use Rattle.handlebars_includes.specs.Graph as graph
use Rattle.handlebars_includes.specs.Graph.{inclusion_in, inclusions_of}
use Rattle.handlebars_includes.specs.Mentions as mentions
use Rattle.handlebars_includes.specs.View.{inclusion_view, mention_of}
use Rattle.handlebars_includes.specs.declared.includes.Inclusion.{Inclusion}
use Rattle.handlebars_includes.specs.declared.mention.Mention.{Mention}
use Rattle.handlebars_includes.proofs.Adding.{leads-goes}

rest-at : (ms : List Mention) (k : ℕ) (d : Mention) → k < length ms → drop k ms ≡ get_or ms k d ∷ drop (k + 1) ms
rest-at ms k d l = drop-cons ms k d l ∙ rw (add-one) refl

pub inclusions-next : (names : List (List ℕ)) (ms : List Mention) (k : ℕ) (d : Mention) (a b : List Inclusion)
    (all : List graph.Inclusion) → k < length ms
    → map inclusion_view a ++ inclusions_of names (map mention_of (drop k ms)) ≡ all
    → map inclusion_view b ≡ map inclusion_view a ++ inclusion_in names (mention_of (get_or ms k d))
    → map inclusion_view b ++ inclusions_of names (map mention_of (drop (k + 1) ms)) ≡ all
inclusions-next names ms k d a b all l so_far added =
    leads-goes inclusion_view [] a b _ _ all
    (subst (λ z. map inclusion_view a ++ inclusions_of names (map mention_of z) ≡ all) (rest-at ms k d l) so_far) added

or_assoc : (a b c : Bool) → ((a || b) || c) ≡ (a || (b || c))
or_assoc true b c = refl
or_assoc false b c = refl

pub any-next : (p : mentions.Mention → Bool) (ms : List Mention) (k : ℕ) (d : Mention) (found r all : Bool) → k < length ms
    → (found || list_any p (map mention_of (drop k ms))) ≡ all → r ≡ p (mention_of (get_or ms k d))
    → ((found || r) || list_any p (map mention_of (drop (k + 1) ms))) ≡ all
any-next p ms k d found r all l so_far is =
    ap (λ z. (found || z) || list_any p (map mention_of (drop (k + 1) ms))) is
    ∙ or_assoc found (p (mention_of (get_or ms k d))) (list_any p (map mention_of (drop (k + 1) ms)))
    ∙ subst (λ z. (found || list_any p (map mention_of z)) ≡ all) (rest-at ms k d l) so_far
