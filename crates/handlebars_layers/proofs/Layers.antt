-- The chains of layers, one by one.
use Rattle.std.proofs.Common.{◌≡◌, ◌+◌, ◌<◌, ◌≤◌, nat_lt, ℕ, arith, List, Some, None, Bor, rules, sym, ap, ◌∙◌, drop, length}
use Rattle.std.specs.Prelude.{slice_get}
use Rattle.std.proofs.lemmas.List.{length-map}
use Rattle.serde_json.specs.View.{view}
use Rattle.serde_json.specs.declared.value.Value.{Value}
use Rattle.handlebars_scope.specs.ScopeView.{frame_of, frames_of}
use Rattle.handlebars_scope.specs.Scopes.{Frame}
use Rattle.handlebars_layers.specs.Chain as chain
use Rattle.handlebars_layers.specs.Chain.{frames_from}
use Rattle.handlebars_layers.specs.Frames.{is_some_frame, frames_around}
use Rattle.handlebars_layers.proofs.Frames.{end-drop, first-drop, outer-drop, some-at}
use Rattle.handlebars_layers.specs.LayerView.{descent_names, chain_of, kind_view}
use Rattle.handlebars_layers.specs.declared.layer.Descent.{Descent}
use Rattle.handlebars_layers.specs.declared.layer.LayerKind.{LayerKind}
use Rattle.handlebars_layers.specs.declared.layer.Layer.{Layer, the_lemmas}
use Rattle.handlebars_layers.specs.declared.layer.Layer.TheVariants as layer

pub chain-Outside : (frames : _) → chain_of (layer.Outside frames) ≡ chain.outside (frames_of frames.now.items)
chain-Outside frames = search (rules, the_lemmas)

pub chain-At : (node : Bor Value) (start : Bor Layer) (skipped : ℕ) (descent : Bor Descent) (kind : LayerKind) (outer : Bor Layer)
    → chain_of (layer.At node start skipped descent kind outer)
    ≡ chain.node_layer (view node.now) (chain_of start.now) skipped (descent_names descent.now) (kind_view kind) (chain_of outer.now)
chain-At node start skipped descent kind outer = search (rules, the_lemmas)

pub chain-Value : (value : Bor Value) (kind : LayerKind) (outer : Bor Layer)
    → chain_of (layer.Value value kind outer) ≡ chain.value_layer (view value.now) (kind_view kind) (chain_of outer.now)
chain-Value value kind outer = search (rules, the_lemmas)

-- ---- frames from outside

pub frames-Outside : (l : Layer) (frames : _) (n : ℕ) → l ≡ layer.Outside frames
    → frames_from (chain_of l) n ≡ drop n (frames_of frames.now.items)
frames-Outside l frames n is = ap (λ c. frames_from c n) (ap chain_of is ∙ chain-Outside frames)

-- the nearest frame, where so many are skipped
pub first-Outside : (l : Layer) (frames : _) (n : ℕ) → l ≡ layer.Outside frames
    → slice_get (frames_of frames.now.items) n ≡ slice_get (frames_from (chain_of l) n) 0
first-Outside l frames n is =
    sym (first-drop n (frames_of frames.now.items)) ∙ sym (ap (λ fs. slice_get fs 0) (frames-Outside l frames n is))

pub some-Outside : (l : Layer) (frames : _) (n m : ℕ) → l ≡ layer.Outside frames → m ≡ length frames.now.items
    → nat_lt n m ≡ is_some_frame (frames_from (chain_of l) n)
some-Outside l frames n m is count =
    some-at n m (frames_of frames.now.items) (count ∙ sym (length-map frames.now.items frame_of))
    ∙ sym (ap is_some_frame (frames-Outside l frames n is))

pub outer-Outside : (l : Layer) (frames : _) (n m : ℕ) → l ≡ layer.Outside frames → m ≡ length frames.now.items → n < m
    → Some (frames_from (chain_of l) (n + 1)) ≡ frames_around (frames_from (chain_of l) n)
outer-Outside l frames n m is count h =
    let fs : List Frame = frames_of frames.now.items in
    let all : length fs ≡ m = length-map frames.now.items frame_of ∙ sym count in
    ap (λ gs. Some gs) (frames-Outside l frames (n + 1) is) ∙ outer-drop n fs (omega (arith, h, all))
    ∙ sym (ap frames_around (frames-Outside l frames n is))

pub end-Outside : (l : Layer) (frames : _) (n m : ℕ) → l ≡ layer.Outside frames → m ≡ length frames.now.items → m ≤ n
    → None ≡ frames_around (frames_from (chain_of l) n)
end-Outside l frames n m is count h =
    let fs : List Frame = frames_of frames.now.items in
    let all : length fs ≡ m = length-map frames.now.items frame_of ∙ sym count in
    sym (ap frames_around (frames-Outside l frames n is ∙ end-drop n fs (omega (arith, h, all))))
