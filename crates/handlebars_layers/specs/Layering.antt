-- Layers are the scope frames that the constructs of templates put around what they render.
use Rattle.std.specs.Prelude.{◌≡◌, List, Option, is_some}
use Rattle.serde_json.specs.Data.{Data}
use Rattle.handlebars_base.specs.Bytes.{Text}
use Rattle.handlebars_base.specs.Optional.{with_or}
use Rattle.handlebars_template.specs.Tree.{Binding, no_binding, single, both}
use Rattle.handlebars_scope.specs.Merged.{merge}
use Rattle.handlebars_scope.specs.Scopes.{Base, Frame, at_value, empty_frame}
use Rattle.handlebars_helpers.specs.CallView.{both_names, single_name}
use Rattle.handlebars_helpers.specs.Iterations.{Iteration, iteration_base, iteration_frame, with_frame}
use Rattle.handlebars_semantics.specs.Inclusion.{inclusion_frame}
use Rattle.handlebars_semantics.specs.State.{nearest_variables}
use Rattle.handlebars_layers.specs.Chain.{BlockNames, LayerKind, partial_layer, iteration_layer, with_layer, one, kind_frame, two, unnamed}

-- the names that a block binds
abbrev pub bound_names : Binding → BlockNames
bound_names no_binding = unnamed
bound_names (single p) = with_or (single_name (single p)) one unnamed
bound_names (both p q) = with_or (both_names (both p q)) (λ names. two names.0 names.1) unnamed

-- what the layer of an iteration is made for, with the names that its block binds
abbrev pub iteration_kind_by_names : BlockNames → Iteration → LayerKind
iteration_kind_by_names names t = iteration_layer t.index t.key t.last names

abbrev pub iteration_kind : Binding → Iteration → LayerKind
iteration_kind binding t = iteration_kind_by_names (bound_names binding) t

-- The layer of an iteration over what has this path, if it has one, is the frame of `each` as it is set up for the first
-- iteration.
abbrev pub IteratesInItsFrame : Option (List Text) → Binding → Iteration → List Frame → Type 0
IteratesInItsFrame path binding t fs =
    kind_frame (iteration_base path t) (iteration_kind binding t) fs ≡ iteration_frame path binding t empty_frame

-- The layer of a later iteration is that frame set up once more. All members of an object have a key, and no item of an array.
abbrev pub IteratesInTheNextFrame : Option (List Text) → Binding → Iteration → Iteration → List Frame → Type 0
IteratesInTheNextFrame path binding before t fs = is_some before.key ≡ is_some t.key
    → kind_frame (iteration_base path t) (iteration_kind binding t) fs
    ≡ iteration_frame path binding t (kind_frame (iteration_base path before) (iteration_kind binding before) fs)

-- The layer of `with` is its frame.
abbrev pub IsInWithFrame : Base → Binding → List Frame → Type 0
IsInWithFrame base binding fs = kind_frame base (with_layer (bound_names binding)) fs ≡ with_frame base binding (nearest_variables fs)

-- The layer of a partial call is its frame.
abbrev pub IsInInclusionFrame : Data → List (Text × Data) → List Frame → Type 0
IsInInclusionFrame d hs fs = kind_frame (at_value (merge d hs)) (partial_layer hs) fs ≡ inclusion_frame d hs (nearest_variables fs)
