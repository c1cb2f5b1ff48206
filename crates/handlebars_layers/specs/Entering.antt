-- Each construct's scope frame is the layer that it enters.
use Rattle.std.specs.Prelude.{◌≡◌, ℕ, List, ◌∷◌, Some, None, is_some}
use Rattle.serde_json.specs.Data.{Data}
use Rattle.handlebars_base.specs.Bytes.{Text}
use Rattle.handlebars_template.specs.Tree.{Binding}
use Rattle.handlebars_scope.specs.Merged.{merge}
use Rattle.handlebars_scope.specs.Scopes.{at_path, at_value, empty_frame}
use Rattle.handlebars_helpers.specs.Iterations.{Iteration, iteration_frame, with_frame}
use Rattle.handlebars_semantics.specs.Inclusion.{inclusion_frame}
use Rattle.handlebars_semantics.specs.State.{nearest_as, nearest_variables}
use Rattle.handlebars_layers.specs.Chain.{Chain, names_from, node_layer, partial_layer, value_layer, with_layer}
use Rattle.handlebars_layers.specs.Layering.{bound_names, iteration_kind}
use Rattle.handlebars_layers.specs.ScopeFrames.{ByDepth, IsEntered, scope_frames}

-- `each` enters an empty scope frame, and its first iteration sets it up: over a value of the data, to which the names lead from
-- the layer `start`, or over a value that has no path.
abbrev pub EntersIterations : ByDepth → ByDepth → Chain → Chain → ℕ → List Text → Binding → Iteration → Type 0
EntersIterations new old c start n names binding t = IsEntered new old c
    → (scope_frames new (node_layer t.member start n names (iteration_kind binding t) c)
    ≡ nearest_as (iteration_frame (Some (names_from start n names)) binding t) (empty_frame ∷ scope_frames old c))
    × (scope_frames new (value_layer t.member (iteration_kind binding t) c)
    ≡ nearest_as (iteration_frame None binding t) (empty_frame ∷ scope_frames old c))

-- A later iteration sets up the frame of the one before it. The partials that were set in it are unchanged. All members of an
-- object have a key, and no item of an array.
abbrev pub EntersNextIteration : ByDepth → Chain → Chain → ℕ → List Text → Binding → Iteration → Iteration → Type 0
EntersNextIteration at c start n names binding before t = is_some before.key ≡ is_some t.key
    → (scope_frames at (node_layer t.member start n names (iteration_kind binding t) c)
    ≡ nearest_as (iteration_frame (Some (names_from start n names)) binding t)
    (scope_frames at (node_layer before.member start n names (iteration_kind binding before) c)))
    × (scope_frames at (value_layer t.member (iteration_kind binding t) c)
    ≡ nearest_as (iteration_frame None binding t) (scope_frames at (value_layer before.member (iteration_kind binding before) c)))

-- `with` enters its scope frame: at a value of the data, or at a value that has no path.
abbrev pub EntersWith : ByDepth → ByDepth → Chain → Data → Chain → ℕ → List Text → Binding → Type 0
EntersWith new old c v start n names binding = IsEntered new old c
    → (scope_frames new (node_layer v start n names (with_layer (bound_names binding)) c)
    ≡ with_frame (at_path (names_from start n names)) binding (nearest_variables (scope_frames old c)) ∷ scope_frames old c)
    × (scope_frames new (value_layer v (with_layer (bound_names binding)) c)
    ≡ with_frame (at_value v) binding (nearest_variables (scope_frames old c)) ∷ scope_frames old c)

-- A partial call enters its scope frame, at a value merged with its hash arguments.
abbrev pub EntersInclusion : ByDepth → ByDepth → Chain → Data → List (Text × Data) → Type 0
EntersInclusion new old c d hs = IsEntered new old c
    → scope_frames new (value_layer (merge d hs) (partial_layer hs) c)
    ≡ inclusion_frame d hs (nearest_variables (scope_frames old c)) ∷ scope_frames old c
