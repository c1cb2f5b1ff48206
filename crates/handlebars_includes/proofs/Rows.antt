-- The inclusions of a template, as the code finds them.
use Rattle.std.proofs.Common.{◌≡◌, ℕ, ◌<◌, ◌≤◌, List, [], length, get_or, refl, ap, ◌∙◌, option_map}
use Rattle.std.specs.Prelude.{Vec, unwrap_or}
use Rattle.std.specs.declared.alloc.Global.{Global}
use Rattle.std.proofs.lemmas.Option.{slice_get-map, slice_get_past, slice_get_read}
use Rattle.handlebars_includes.specs.Graph.{inclusions_at, targets, targets_at}
use Rattle.handlebars_includes.specs.Graph as graph
use Rattle.handlebars_includes.specs.View.{row_view, rows}
use Rattle.handlebars_includes.specs.declared.includes.Inclusion.{Inclusion}
use Rattle.std.specs.Prelude.{Option}

pub row-at : (vs : List (Vec Inclusion Global)) (i : ℕ) (v : Vec Inclusion Global) → i < length vs → v ≡ get_or vs i v
    → inclusions_at (rows vs) i ≡ row_view v
row-at vs i v h is =
    ap (λ (o : Option (List graph.Inclusion)). unwrap_or o [])
    (slice_get-map row_view vs i ∙ ap (option_map row_view) (slice_get_read vs (length vs) i v refl h is))

pub row-past : (vs : List (Vec Inclusion Global)) (i : ℕ) → length vs ≤ i → inclusions_at (rows vs) i ≡ []
row-past vs i h =
    ap (λ (o : Option (List graph.Inclusion)). unwrap_or o [])
    (slice_get-map row_view vs i ∙ ap (option_map row_view) (slice_get_past vs i h))

pub targets-at : (vs : List (Vec Inclusion Global)) (i : ℕ) (v : Vec Inclusion Global) → i < length vs → v ≡ get_or vs i v
    → targets_at (rows vs) i ≡ targets (row_view v)
targets-at vs i v h is = ap targets (row-at vs i v h is)

pub targets-past : (vs : List (Vec Inclusion Global)) (i : ℕ) → length vs ≤ i → targets_at (rows vs) i ≡ []
targets-past vs i h = ap targets (row-past vs i h)
