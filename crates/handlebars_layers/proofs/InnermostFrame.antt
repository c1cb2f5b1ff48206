-- Partials that are set in the innermost frame, and layers that are entered from it.
use Rattle.std.proofs.Common.{◌≡◌, inl, inr, ◌<◌, ◌≤◌, ℕ, suc, arith, ◌∷◌, sym, ap, ◌∙◌}
use Rattle.std.proofs.lemmas.Bool.{cases_lt}
use Rattle.handlebars_base.specs.Bytes.{Text}
use Rattle.handlebars_template.specs.Tree.{Tree}
use Rattle.handlebars_scope.specs.Scopes.{Frame, nothing_at, put_at}
use Rattle.handlebars_semantics.specs.State.{nearest_as, with_partial}
use Rattle.handlebars_layers.specs.Chain.{Chain, frame_layer}
use Rattle.handlebars_layers.specs.ScopeFrames.{ByDepth, IsEntered, layer_depth, scope_frames, set_partials}
use Rattle.handlebars_layers.proofs.ScopeFrames.{enters-frame, enters-with-none, scope_frames-unchanged, sets-by-depth}

module _ (new old : ByDepth) (c : Chain) (depth : ℕ) (deep : depth ≡ layer_depth c) where
  pub frames-set : (name : Text) (t : Tree) → ((d : ℕ) → d < depth → new d ≡ old d) → new depth ≡ put_at name t (old depth)
      → scope_frames new c ≡ nearest_as (with_partial name t) (scope_frames old c)
  frames-set name t outer own =
      sets-by-depth new old c name t (λ d less. outer d (omega arith))
      (ap new (sym deep) ∙ own ∙ ap (λ k. put_at name t (old k)) deep)

  pub frames-not-set : ((d : ℕ) → d < depth → new d ≡ old d) → new depth ≡ old depth → scope_frames new c ≡ scope_frames old c
  frames-not-set outer own = scope_frames-unchanged new old c (λ d near. elim (cases_lt d depth) [
    | inl less ↦ outer d less
    | inr far ↦
        let here : d ≡ depth = omega arith in
        ap new here ∙ own ∙ sym (ap old here)
  ])

  pub frames-around : ((d : ℕ) → d ≤ depth → new d ≡ old d) → scope_frames new c ≡ scope_frames old c
  frames-around outer = scope_frames-unchanged new old c (λ d near. outer d (omega arith))

  pub entered-with-none : ((d : ℕ) → d ≤ depth → new d ≡ old d) → ((d : ℕ) → depth < d → new d ≡ nothing_at) → IsEntered new old c
  entered-with-none outer deeper =
      enters-with-none new old c (λ d near. outer d (omega arith)) (deeper (suc (layer_depth c)) (omega arith))

  pub entered-frame : (partials : Text → _) (within : ℕ) → within ≡ suc depth → ((d : ℕ) → d ≤ depth → new d ≡ old d)
      → new within ≡ partials → (f : Frame) → scope_frames new (frame_layer f c) ≡ set_partials partials f ∷ scope_frames old c
  entered-frame partials within next outer own f =
      let here : suc (layer_depth c) ≡ within = omega arith in
      enters-frame new old c f (λ d near. outer d (omega arith))
      ∙ ap (λ some. set_partials some f ∷ scope_frames old c) (ap new here ∙ own)
