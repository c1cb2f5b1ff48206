-- Layers that constructs enter, among the scope frames of a run.
use Rattle.std.proofs.Common.{◌≡◌, ℕ, suc, List, [], ◌∷◌, ◌++◌, Option, Some, None, append_assoc, refl, sym, ap, ◌∙◌}
use Rattle.std.specs.Prelude.{is_some}
use Rattle.std.proofs.lemmas.List.{append-nil}
use Rattle.serde_json.specs.Data.{Data}
use Rattle.handlebars_base.specs.Bytes.{Text}
use Rattle.handlebars_template.specs.Tree.{Binding, Tree}
use Rattle.handlebars_scope.specs.Merged.{merge}
use Rattle.handlebars_scope.specs.Scopes.{Base, Frame, at_path, at_value}
use Rattle.handlebars_helpers.specs.Iterations.{Iteration, iteration_base, iteration_frame, iteration_name}
use Rattle.handlebars_layers.specs.Chain.{Chain, frames, frames_from, kind_frame, names_at, names_from, partial_layer, with_layer}
use Rattle.handlebars_layers.specs.Entering.{EntersInclusion, EntersIterations, EntersNextIteration, EntersWith}
use Rattle.handlebars_layers.specs.Layering.{bound_names, iteration_kind}
use Rattle.handlebars_layers.specs.ScopeFrames.{ByDepth, layer_depth, scope_frames, set_partials}
use Rattle.handlebars_layers.proofs.Layering.{iteration_layer-first, iteration_layer-next, partial-frame, with-frame}

-- the base path of an iteration's layer
iteration-path : (start : Chain) (n : ℕ) (names : List Text) (t : Iteration)
    → at_path (names_from start n (names ++ iteration_name t ∷ [])) ≡ iteration_base (Some (names_from start n names)) t
iteration-path start n names t = ap at_path (sym (append_assoc (names_at (frames_from start n)) names (iteration_name t ∷ [])))

with-path : (start : Chain) (n : ℕ) (names : List Text) → at_path (names_from start n (names ++ [])) ≡ at_path (names_from start n names)
with-path start n names = ap (λ all. at_path (names_from start n all)) (append-nil names)

pub enters-iterations : (new old : ByDepth) (c start : Chain) (n : ℕ) (names : List Text) (binding : Binding) (t : Iteration)
    → EntersIterations new old c start n names binding t
enters-iterations new old c start n names binding t = λ entered.
    let fs = scope_frames old c in (
      entered.node t.member start n names (iteration_kind binding t)
          ∙ ap (λ base. kind_frame base (iteration_kind binding t) fs ∷ fs) (iteration-path start n names t)
          ∙ ap (λ f. f ∷ fs) (iteration_layer-first (Some (names_from start n names)) binding t fs),
      entered.value t.member (iteration_kind binding t)
          ∙ ap (λ f. f ∷ fs) (iteration_layer-first None binding t fs),
    )

-- partials are not touched where a frame is set up
iteration-partials : (path : Option (List Text)) (binding : Binding) (t : Iteration) (partial : Text → Option Tree) (f : Frame)
    → set_partials partial (iteration_frame path binding t f) ≡ iteration_frame path binding t (set_partials partial f)
iteration-partials None b t partial f = refl
iteration-partials (Some path) b t partial f = refl

next-frame : (path : Option (List Text)) (binding : Binding) (before t : Iteration) (fs : List Frame) (partial : Text → Option Tree)
    → is_some before.key ≡ is_some t.key
    → set_partials partial (kind_frame (iteration_base path t) (iteration_kind binding t) fs)
    ≡ iteration_frame path binding t (set_partials partial (kind_frame (iteration_base path before) (iteration_kind binding before) fs))
next-frame path binding before t fs partial alike =
    ap (set_partials partial) (iteration_layer-next path binding before t fs alike)
    ∙ iteration-partials path binding t partial (kind_frame (iteration_base path before) (iteration_kind binding before) fs)

pub enters-next-iteration : (at : ByDepth) (c start : Chain) (n : ℕ) (names : List Text) (binding : Binding) (before t : Iteration)
    → EntersNextIteration at c start n names binding before t
enters-next-iteration at c start n names binding before t = λ alike.
    let own = at (suc (layer_depth c)) in
    let path = names_from start n names in
    let framed : Base → Iteration → Frame =
    λ base it. set_partials own (kind_frame base (iteration_kind binding it) (frames c)) in (
      ap (λ base. framed base t ∷ scope_frames at c) (iteration-path start n names t)
          ∙ ap (λ f. f ∷ scope_frames at c) (next-frame (Some path) binding before t (frames c) own alike)
          ∙ sym (ap (λ base. iteration_frame (Some path) binding t (framed base before) ∷ scope_frames at c)
          (iteration-path start n names before)),
      ap (λ f. f ∷ scope_frames at c) (next-frame None binding before t (frames c) own alike),
    )

pub enters-with : (new old : ByDepth) (c : Chain) (v : Data) (start : Chain) (n : ℕ) (names : List Text) (binding : Binding)
    → EntersWith new old c v start n names binding
enters-with new old c v start n names binding = λ entered.
    let fs = scope_frames old c in
    let kind = with_layer (bound_names binding) in (
      entered.node v start n names kind
          ∙ ap (λ base. kind_frame base kind fs ∷ fs) (with-path start n names)
          ∙ ap (λ f. f ∷ fs) (with-frame (at_path (names_from start n names)) binding fs),
      entered.value v kind ∙ ap (λ f. f ∷ fs) (with-frame (at_value v) binding fs),
    )

pub enters-inclusion : (new old : ByDepth) (c : Chain) (d : Data) (hs : List (Text × Data)) → EntersInclusion new old c d hs
enters-inclusion new old c d hs = λ entered.
    let fs = scope_frames old c in
    entered.value (merge d hs) (partial_layer hs) ∙ ap (λ f. f ∷ fs) (partial-frame d hs fs)
