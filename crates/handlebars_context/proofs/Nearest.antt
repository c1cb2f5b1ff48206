-- The nearest of a context's scope frames, and the nearest one that has a partial.
use Rattle.std.proofs.Common.{◌≡◌, ℕ, zero, suc, ◌+◌, slice_get, slice_set, List, [], ◌∷◌, drop, Option, Some, None, option_map, MutBor, refl, sym, ap, ◌∙◌, arith}
use Rattle.std.proofs.lemmas.Option.{none-some, same_Some}
use Rattle.std.specs.List.{IsItemAtMut}
use Rattle.handlebars_base.specs.Bytes.{Text}
use Rattle.handlebars_template.specs.Tree.{Tree}
use Rattle.handlebars_scope.specs.Resolve.{or_else}
use Rattle.handlebars_scope.specs.Scopes.{Frame, nothing_at}
use Rattle.handlebars_scope.specs.ScopeView.{frame_of, frames_of}
use Rattle.handlebars_scope.specs.declared.block.BlockContext.{BlockContext}
use Rattle.handlebars_semantics.specs.State.{nearest_as, partial_in}
use Rattle.handlebars_layers.specs.ScopeFrames.{set_partials}

-- ---- the partial of a name

past-one : (name : Text) (at : ℕ) (fs : List Frame) (f : Frame) → Some f ≡ slice_get fs at → None ≡ f.partial name
    → partial_in (drop (suc at) fs) name ≡ partial_in (drop at fs) name
past-one name at [] f is none = absurd (none-some f (sym is))
past-one name zero (g ∷ gs) f is none =
    ap (λ x. or_else x (partial_in gs name)) (none ∙ ap (λ (h : Frame). h.partial name) (same_Some f g is))
past-one name (suc at) (g ∷ gs) f is none = past-one name at gs f is none

-- This frame has none of the name, so those around it decide.
pub partial_in-next : (name : Text) (at : ℕ) (fs : List Frame) (f : Frame) → Some f ≡ slice_get fs at → None ≡ f.partial name
    → partial_in (drop (at + 1) fs) name ≡ partial_in (drop at fs) name
partial_in-next name at fs f is none =
    let next : at + 1 ≡ suc at = omega arith in
    ap (λ n. partial_in (drop n fs) name) next ∙ past-one name at fs f is none

-- This frame has it.
pub partial_in-here : (name : Text) (at : ℕ) (fs : List Frame) (f : Frame) (t : Tree) → Some f ≡ slice_get fs at
    → Some t ≡ f.partial name → Some t ≡ partial_in (drop at fs) name
partial_in-here name at [] f t is some = absurd (none-some f (sym is))
partial_in-here name zero (g ∷ gs) f t is some =
    ap (λ x. or_else x (partial_in gs name)) (some ∙ ap (λ (h : Frame). h.partial name) (same_Some f g is))
partial_in-here name (suc at) (g ∷ gs) f t is some = partial_in-here name at gs f t is some

-- ---- the nearest frame

-- the nearest frame, as definitions see it
pub nearest-frame : (bs : List BlockContext) (r : Option (MutBor BlockContext)) → IsItemAtMut bs 0 r
    → option_map (λ b. frame_of b.now) r ≡ slice_get (frames_of bs) 0
nearest-frame [] None item = refl
nearest-frame [] (Some b) item = absurd (omega (arith, item.3.0))
nearest-frame (a ∷ bs) None item = absurd (omega (arith, item.3))
nearest-frame (a ∷ bs) (Some b) item = ap (λ z. Some (frame_of z)) item.1

-- the frames of which the nearest one's partials were taken
pub nearest-taken : (bs : List BlockContext) (f : Frame) (other : BlockContext) (partials : Text → Option Tree)
    → Some f ≡ slice_get (frames_of bs) 0 → partials ≡ f.partial → frame_of other ≡ record f { partial = nothing_at }
    → nearest_as (set_partials partials) (frames_of (slice_set bs 0 other)) ≡ frames_of bs
nearest-taken [] f other partials is taken left = refl
nearest-taken (b ∷ bs) f other partials is taken left = ap (λ (g : Frame). g ∷ frames_of bs)
    (ap (set_partials partials) left ∙ ap (λ p. set_partials p f) taken ∙ same_Some f (frame_of b) is)

-- the frames of which the nearest one's partials were replaced
pub nearest-put : (bs : List BlockContext) (f : Frame) (other : BlockContext) (partials : Text → Option Tree)
    → Some f ≡ slice_get (frames_of bs) 0 → frame_of other ≡ set_partials partials f
    → frames_of (slice_set bs 0 other) ≡ nearest_as (set_partials partials) (frames_of bs)
nearest-put [] f other partials is put = refl
nearest-put (b ∷ bs) f other partials is put = ap (λ (g : Frame). g ∷ frames_of bs)
    (put ∙ ap (set_partials partials) (same_Some f (frame_of b) is))
