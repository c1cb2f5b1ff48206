-- Tags that close circles.
use Rattle.std.proofs.Common.{◌≡◌, ℕ, ◌+◌, ◌<◌, Bool, false, List, [], ◌∷◌, ◌++◌, length, map, take, get_or, sym, ap, ◌∙◌, subst, append_assoc}
use Rattle.std.specs.Prelude.{Vec}
use Rattle.std.specs.declared.alloc.Global.{Global}
use Rattle.std.proofs.lemmas.List.{append-nil, length-map, map-append, map_more}
use Rattle.handlebars_includes.specs.Circles.{AreCircles, CircleTags, tag_more, CirclesBefore, template_more, ClosesCircle, closes, Tag, always_among, always_in}
use Rattle.handlebars_includes.specs.Graph.{Graph, Reaches, inclusions_at}
use Rattle.handlebars_includes.specs.Graph as graph
use Rattle.handlebars_includes.proofs.Rows.{row-at}
use Rattle.handlebars_includes.specs.View.{AddsTags, inclusion_view, row_view, rows, tag_of}
use Rattle.handlebars_includes.specs.declared.circles.Circle.{Circle}
use Rattle.handlebars_includes.specs.declared.includes.Inclusion.{Inclusion}

pub closing : (g : Graph) (i : ℕ) (x : Inclusion) (c : Circle) (old new : List Circle) → x.target < i → Reaches g (x.target ∷ []) i
    → tag_of c ≡ record { template = i; inclusion = inclusion_view x } → new ≡ old ++ c ∷ []
    → AddsTags (ClosesCircle g i (inclusion_view x)) old new
closing g i x c old new l r is added = (
  record { template = i; inclusion = inclusion_view x } ∷ [],
  closes l r,
  ap (map tag_of) added ∙ map-append tag_of old (c ∷ []) ∙ ap (λ t. map tag_of old ++ t ∷ []) is,
)

pub not-closing : (g : Graph) (i : ℕ) (x : Inclusion) (old : List Circle) → ClosesCircle g i (inclusion_view x) []
    → AddsTags (ClosesCircle g i (inclusion_view x)) old old
not-closing g i x old c = ([], c, sym (append-nil (map tag_of old)))

-- Tags of a template so far, and those of one more.
pub tags-next : (g : Graph) (i : ℕ) (xs : List Inclusion) (k : ℕ) (d : Inclusion) (a b c : List Circle) → k < length xs
    → AddsTags (CircleTags g i (map inclusion_view (take k xs))) a b → AddsTags (ClosesCircle g i (inclusion_view (get_or xs k d))) b c
    → AddsTags (CircleTags g i (map inclusion_view (take (k + 1) xs))) a c
tags-next g i xs k d a b c l (ss, so_far, before) (ts, here, added) = (
  ss ++ ts,
  subst (λ (ys : List graph.Inclusion). CircleTags g i ys (ss ++ ts)) (sym (map_more inclusion_view xs k d l)) (tag_more so_far here),
  added ∙ ap (λ z. z ++ ts) before ∙ append_assoc (map tag_of a) ss ts,
)

-- Templates so far, and one more.
pub templates-next : (vs : List (Vec Inclusion Global)) (i : ℕ) (v : Vec Inclusion Global) (a b : List Circle) → i < length vs
    → v ≡ get_or vs i v → CirclesBefore (rows vs) i (map tag_of a) → AddsTags (CircleTags (rows vs) i (row_view v)) a b
    → CirclesBefore (rows vs) (i + 1) (map tag_of b)
templates-next vs i v a b l is so_far (ts, here, added) =
    subst (CirclesBefore (rows vs) (i + 1)) (sym added)
    (template_more so_far (subst (λ (xs : List graph.Inclusion). CircleTags (rows vs) i xs ts) (sym (row-at vs i v l is)) here))

pub are-circles : (g : Graph) (replaced : Bool) (vs : List (Vec Inclusion Global)) (ts : List Tag) → replaced ≡ false
    → rows vs ≡ always_in g → CirclesBefore (rows vs) (length (rows vs)) ts → AreCircles g replaced ts
are-circles g replaced vs ts is_none is found =
    subst (λ (b : Bool). AreCircles g b ts) (sym is_none)
    (subst (λ n. CirclesBefore (always_in g) n ts) (length-map g always_among) (subst (λ (h : Graph). CirclesBefore h (length h) ts) is found))
