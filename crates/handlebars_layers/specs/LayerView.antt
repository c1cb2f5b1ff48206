-- What the code's layers represent.
use Rattle.std.specs.Prelude.{◌++◌, ◌∷◌, [], List, Option, None, Some, String, option_map, string_bytes}
use Rattle.std.specs.declared.alloc.Global.{Global}
use denote.Ref.{Bor}
use Rattle.serde_json.specs.View.{view}
use Rattle.handlebars_base.specs.Bytes.{Text}
use Rattle.handlebars_base.specs.PathView.{segments_of}
use Rattle.handlebars_scope.specs.Resolve.{names_of}
use Rattle.handlebars_scope.specs.ResolutionView.{names_in}
use Rattle.handlebars_scope.specs.ScopeView.{frame_of, frames_of}
use Rattle.handlebars_layers.specs.Chain as chain
use Rattle.handlebars_layers.specs.Chain.{Chain, frames_from}
use Rattle.handlebars_layers.specs.FrameValues.{hash_values}
use Rattle.handlebars_layers.specs.declared.layer.Descent.{Descent, fold-Descent, out-Descent}
use Rattle.handlebars_layers.specs.declared.layer.Descent.TheOpen.{Descent-F}
use Rattle.handlebars_layers.specs.declared.layer.BlockNames.{BlockNames}
use Rattle.handlebars_layers.specs.declared.layer.BlockNames.TheVariants.{Unnamed, One, Two}
use Rattle.handlebars_layers.specs.declared.layer.LayerKind.{LayerKind}
use Rattle.handlebars_layers.specs.declared.layer.LayerKind.TheVariants.{Iteration, With, Partial}
use Rattle.handlebars_layers.specs.declared.layer.Layer.{Layer, fold-Layer}
use Rattle.handlebars_layers.specs.declared.layer.Layer.TheOpen.{Layer-F}

abbrev pub names_seen : BlockNames → chain.BlockNames
names_seen Unnamed = chain.unnamed
names_seen (One name) = chain.one name.now
names_seen (Two first second) = chain.two first.now second.now

-- the name that recursive lookup found, if it found one
abbrev pub last_names : Option (Bor (String Global)) → List Text
last_names None = []
last_names (Some name) = string_bytes name.now ∷ []

-- the names of the descent before, if there is one
abbrev pub before_names : Option (Bor (List Text)) → List Text
before_names None = []
before_names (Some names) = names.now

abbrev pub descent_of : Descent-F (List Text) → List Text
descent_of b = before_names b.after ++ (names_in b.bound.now ++ (names_of (segments_of b.rest.now) ++ last_names b.last))

abbrev pub descent_names : Descent → List Text
descent_names = fold-Descent _ descent_of

abbrev pub after_names : Option (Bor Descent) → List Text
after_names None = []
after_names (Some before) = descent_names before.now

-- the names that a descent adds to the descent before it
abbrev pub own_names : Descent → List Text
own_names b =
    names_in (out-Descent b).bound.now ++ (names_of (segments_of (out-Descent b).rest.now) ++ last_names (out-Descent b).last)

-- the names of the descent before, if there is one
abbrev pub after_of : Descent → List Text
after_of b = after_names (out-Descent b).after

-- the name after those of segments, if there is one
abbrev pub last_of : Descent → List Text
last_of b = last_names (out-Descent b).last

abbrev pub kind_view : LayerKind → chain.LayerKind
kind_view (Iteration index key last names) = chain.iteration_layer index (option_map (λ k. k.now) key) last (names_seen names.now)
kind_view (With names) = chain.with_layer (names_seen names.now)
kind_view (Partial hash) = chain.partial_layer (hash_values hash.now)

abbrev pub layer_chain : Layer-F Chain → Chain
layer_chain Layer-F.Root = chain.no_layer
layer_chain (Layer-F.Outside frames) = chain.outside (frames_of frames.now.items)
layer_chain (Layer-F.At node start skipped descent kind outer) =
    chain.node_layer (view node.now) start.now skipped (descent_names descent.now) (kind_view kind) outer.now
layer_chain (Layer-F.Value value kind outer) = chain.value_layer (view value.now) (kind_view kind) outer.now
layer_chain (Layer-F.Frame frame outer) = chain.frame_layer (frame_of frame.now) outer.now

abbrev pub chain_of : Layer → Chain
chain_of = fold-Layer _ layer_chain
