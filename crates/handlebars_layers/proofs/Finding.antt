-- The partial of a name: of layers, or else of the frames from outside.
use Rattle.std.proofs.Common.{◌≡◌, ℕ, Some, None, sym, ap, ◌∙◌}
use Rattle.handlebars_base.specs.Bytes.{Text}
use Rattle.handlebars_template.specs.Tree.{Tree}
use Rattle.handlebars_scope.specs.Resolve.{or_else}
use Rattle.handlebars_semantics.specs.State.{partial_in}
use Rattle.handlebars_layers.specs.Chain.{Chain, frames_outside}
use Rattle.handlebars_layers.specs.NearestPartial.{nearest_partial}
use Rattle.handlebars_layers.specs.PartialsByDepth.{partials_at}
use Rattle.handlebars_layers.specs.PartialsView.{partials_of}
use Rattle.handlebars_layers.specs.ScopeFrames.{layer_depth, scope_frames, scope_frames_outside}
use Rattle.handlebars_layers.specs.declared.partials.Partials.{Partials}
use Rattle.handlebars_layers.proofs.Nearest.{nearest-layers}
use Rattle.handlebars_layers.proofs.ScopeFrames.{finds-by-depth}

module _ (p : Partials) (c : Chain) (depth : ℕ) (name : Text) (deep : depth ≡ layer_depth c) where
  in-layers : nearest_partial (partials_at p.all.items) depth name ≡ nearest_partial (partials_of p) (layer_depth c) name
  in-layers = nearest-layers p depth name ∙ ap (λ k. nearest_partial (partials_of p) k name) deep

  pub layers-have : (t : Tree) → Some t ≡ nearest_partial (partials_at p.all.items) depth name
      → Some t ≡ partial_in (scope_frames (partials_of p) c) name
  layers-have t found =
      ap (λ o. or_else o (partial_in (scope_frames_outside (partials_of p) (frames_outside c)) name)) (found ∙ in-layers)
      ∙ sym (finds-by-depth (partials_of p) c name)

  pub layers-lack : None ≡ nearest_partial (partials_at p.all.items) depth name
      → partial_in (scope_frames_outside (partials_of p) (frames_outside c)) name ≡ partial_in (scope_frames (partials_of p) c) name
  layers-lack none =
      ap (λ o. or_else o (partial_in (scope_frames_outside (partials_of p) (frames_outside c)) name)) (none ∙ in-layers)
      ∙ sym (finds-by-depth (partials_of p) c name)
