-- What is rendered in a layer: the layer is the scope frame of the definition, from where it is entered to where it is left.
use Rattle.std.proofs.Common.{◌≡◌, ℕ, Bool, List, [], ◌∷◌, Option, Some, None, option_map, sym, ap, ◌∙◌, subst}
use denote.Ref.{Bor}
use Rattle.std.specs.declared.io.Error.{Error}
use Rattle.serde_json.specs.Data.{Data}
use Rattle.handlebars_base.specs.Bytes.{Text}
use Rattle.handlebars_template.specs.Tree.{Binding, Tree, call_binding}
use Rattle.handlebars_template.specs.TreeView.{binding_of, binding_view, block_param_view, call_view}
use Rattle.handlebars_template.specs.declared.template.tree.BlockParam.{BlockParam}
use Rattle.handlebars_template.specs.declared.template.tree.HelperTemplate.{HelperTemplate, out-HelperTemplate}
use Rattle.handlebars_template.proofs.Levels.{call_binding-view}
use Rattle.handlebars_scope.specs.Contexts.{data_of}
use Rattle.handlebars_scope.specs.Scopes.{Base, Frame, at_path, at_value, nothing_at}
use Rattle.handlebars_helpers.specs.CallView.{HelperView}
use Rattle.handlebars_helpers.specs.Iterations.{with_frame}
use Rattle.handlebars_semantics.specs.Execute.{change, in_scope_frame, render_branch, render_with}
use Rattle.handlebars_semantics.specs.Occurrences.{Occurrence, as_part, body_at}
use Rattle.handlebars_semantics.specs.State.{Parts, Setting, State, nearest_variables, pop_frame, push_frame}
use Rattle.handlebars_semantics.specs.Steps.{Prog, ◌>>◌, ◌>>=◌}
use Rattle.handlebars_layers.specs.Chain.{BlockNames, Chain, frame_layer, names_from, node_layer, outer_chain, value_layer, with_layer}
use Rattle.handlebars_layers.specs.LayerView.{chain_of}
use Rattle.handlebars_layers.specs.Layering.{bound_names}
use Rattle.handlebars_layers.specs.PartialsView.{partials_of}
use Rattle.handlebars_layers.specs.ScopeFrames.{ByDepth, IsEntered, scope_frames, set_partials}
use Rattle.handlebars_layers.specs.declared.innermost.Innermost.{Innermost}
use Rattle.handlebars_layers.specs.declared.layer.Layer.{Layer}
use Rattle.handlebars_layers.proofs.Entering.{enters-with}
use Rattle.handlebars_layers.proofs.ScopeFrames.{leaves-outer}
use Rattle.handlebars_values.specs.RunView.{run_state}
use Rattle.handlebars_values.specs.View.{CapturedIn, Within, frames_in_run, setting_in, state_with, with_captured, within}
use Rattle.handlebars_values.specs.declared.environment.Environment as declared
use Rattle.handlebars_values.specs.declared.run.Run.{Run}
use Rattle.handlebars_write.specs.View.{Answered, Holding, Moment, RefinesProg, goes_on, is_over, moment_at}
use Rattle.handlebars_write.proofs.Refinement.{refines_prog-change, refines_prog-changed, refines_prog-elsewhere, refines_prog-get, refines_prog-over, refines_prog-then}
use Rattle.handlebars_elements.specs.View.{Captures, moment}

-- the names that a block binds, as the code has them
pub binding-seen : (h : HelperTemplate) (o : Option (Bor BlockParam))
    → option_map (λ b. b.now) o ≡ (out-HelperTemplate h).block_param
    → binding_of (option_map (λ b. binding_view b.now) o) ≡ call_binding (call_view h)
binding-seen h None is = ap block_param_view is ∙ sym (call_binding-view h)
binding-seen h (Some b) is = ap block_param_view is ∙ sym (call_binding-view h)

-- ---- states

-- the state of a run in these scope frames
abbrev pub state_in : {w : Within} → CapturedIn w → List Frame → Run → State
state_in captured fs r = with_captured captured (run_state fs r)

-- the state once a frame is entered
pub pushes : {w : Within} (captured : CapturedIn w) (layer : Chain) (f : Frame) (before after : Run)
    → ((fs : List Frame) → run_state fs after ≡ run_state fs before) → frames_in_run layer after ≡ f ∷ frames_in_run w.layers before
    → state_in captured (frames_in_run layer after) after ≡ push_frame f (state_with captured before)
pushes captured layer f before after same is =
    ap (λ fs. state_in captured fs after) is ∙ ap (with_captured captured) (same (f ∷ frames_in_run _ before))

-- the state once the layer is left
pub pops : {w : Within} (captured : CapturedIn w) (layer : Chain) (r : Run) → outer_chain layer ≡ Some w.layers
    → state_with captured r ≡ pop_frame (state_in captured (frames_in_run layer r) r)
pops {w = w} captured layer r is =
    ap (λ fs. state_in captured fs r) (sym (leaves-outer (partials_of r.partials) layer w.layers is))

-- the state once the partials of deeper layers are dropped
pub unchanged-around : {w : Within} (captured : CapturedIn w) (before after : Run)
    → IsEntered (partials_of after.partials) (partials_of before.partials) w.layers
    → ((fs : List Frame) → run_state fs after ≡ run_state fs before) → state_with captured after ≡ state_with captured before
unchanged-around {w = w} captured before after entered same =
    ap (λ fs. state_in captured fs after) entered.around ∙ ap (with_captured captured) (same (frames_in_run w.layers before))

-- ---- the frame of `with`

pub with-node : (new old : ByDepth) (c layer : Chain) (v : Data) (start : Chain) (n : ℕ) (names : List Text) (binding : Binding)
    (bound : BlockNames) → IsEntered new old c → bound ≡ bound_names binding
    → layer ≡ node_layer v start n names (with_layer bound) c
    → scope_frames new layer
    ≡ with_frame (at_path (names_from start n names)) binding (nearest_variables (scope_frames old c)) ∷ scope_frames old c
with-node new old c layer v start n names binding bound entered same is =
    ap (scope_frames new) is ∙ ap (λ b. scope_frames new (node_layer v start n names (with_layer b) c)) same
    ∙ (enters-with new old c v start n names binding entered).0

pub with-value : (new old : ByDepth) (c layer : Chain) (v : Data) (binding : Binding) (bound : BlockNames) → IsEntered new old c
    → bound ≡ bound_names binding → layer ≡ value_layer v (with_layer bound) c
    → scope_frames new layer ≡ with_frame (at_value v) binding (nearest_variables (scope_frames old c)) ∷ scope_frames old c
with-value new old c layer v binding bound entered same is =
    ap (scope_frames new) is ∙ ap (λ b. scope_frames new (value_layer v (with_layer b) c)) same
    ∙ (enters-with new old c v c 0 [] binding entered).1

-- ---- the frame of a user-defined helper, with its partials

pub frame-entered : (new old : ByDepth) (c layer : Chain) (f stripped : Frame) (partial : Text → Option Tree)
    → ((g : Frame) → scope_frames new (frame_layer g c) ≡ set_partials partial g ∷ scope_frames old c)
    → stripped ≡ record f { partial = nothing_at } → partial ≡ f.partial → layer ≡ frame_layer stripped c
    → scope_frames new layer ≡ f ∷ scope_frames old c
frame-entered new old c layer f stripped partial enters bare taken is =
    ap (scope_frames new) is ∙ enters stripped ∙ ap (λ g. set_partials partial g ∷ scope_frames old c) bare
    ∙ ap (λ (p : Text → Option Tree). record f { partial = p } ∷ scope_frames old c) taken

-- ---- programs

module _ (p : Setting) (may : Error → Type 0) where
  -- a program, and then the nearest frame is left
  pub and-pop : (m : Prog (Unit {0})) {before : Moment} {next last : State} {new : Holding} {r : Answered}
      → last ≡ pop_frame next → RefinesProg p m may before r (moment_at next new)
      → RefinesProg p (m >> change pop_frame) may before r (moment_at last new)
  and-pop m is (goes_on {u = u} c) =
      refines_prog-then p may m (change pop_frame) (goes_on {u = u} c) (refines_prog-change p may pop_frame is)
  and-pop m is (is_over c) = refines_prog-over p may m (change pop_frame) (refines_prog-elsewhere p may (is_over c))

  -- a frame that was entered, around a program that leaves it
  pub in-frame : (f : Frame) (m : Prog (Unit {0})) {s mid : State} {h : Holding} {after : Moment} {r : Answered}
      → mid ≡ push_frame f s → RefinesProg p (m >> change pop_frame) may (moment_at mid h) r after
      → RefinesProg p (in_scope_frame f m) may (moment_at s h) r after
  unfolding ◌>>◌
  in-frame f m is x = refines_prog-changed p may (push_frame f) (m >> change pop_frame) is x

  -- the frame of `with`
  pub in-with : (occurrence : Occurrence) (h : HelperView) (base : Base) {s mid : State} {held : Holding} {after : Moment} {r : Answered}
      → mid ≡ push_frame (with_frame base h.binding (nearest_variables s.blocks)) s
      → RefinesProg p (render_branch (body_at occurrence (as_part 0)) h.body >> change pop_frame) may (moment_at mid held) r after
      → RefinesProg p (render_with occurrence h base) may (moment_at s held) r after
  unfolding ◌>>=◌
  in-with occurrence h base {s = s} is x =
      refines_prog-get p may (λ z. in_scope_frame (with_frame base h.binding (nearest_variables z.blocks))
      (render_branch (body_at occurrence (as_part 0)) h.body))
      (in-frame (with_frame base h.binding (nearest_variables s.blocks)) (render_branch (body_at occurrence (as_part 0)) h.body) is x)

-- ---- an environment in another layer

module _ {P : Type 0} (parts : P → Parts) (x : declared.Environment P) (i : Innermost) (layer : Bor Layer)
    (given : i.given ≡ x.innermost.given) (nearest : i.nearest ≡ layer) where
  -- what was executed there, in the frames of the layer
  pub refines-nearer : (asks : Bool) (may : Error → Type 0) (before after : Run) {h new : Holding} {r : Answered} {m : Prog (Unit {0})}
      → ((captured : CapturedIn (within (record x { innermost = i }))) → Captures asks captured
      → RefinesProg (setting_in parts (record x { innermost = i })) m may (moment captured before h) r
      (moment captured after new))
      → (captured : CapturedIn (within x)) → Captures asks captured
      → RefinesProg (setting_in parts x) m may (moment_at (state_in captured (frames_in_run (chain_of layer.now) before) before) h) r
      (moment_at (state_in captured (frames_in_run (chain_of layer.now) after) after) new)
  refines-nearer asks may before after {h = h} {new = new} {r = r} {m = m} refines captured captures =
      subst (λ (l : Bor Layer). RefinesProg (setting_in parts x) m may
      (moment_at (state_in captured (frames_in_run (chain_of l.now) before) before) h) r
      (moment_at (state_in captured (frames_in_run (chain_of l.now) after) after) new)) nearest
      (subst (λ (c : _). RefinesProg (record { given = data_of c.now; parts = parts x.inclusion.now.parts.now }) m may
      (moment_at (state_in captured (frames_in_run (chain_of i.nearest.now) before) before) h) r
      (moment_at (state_in captured (frames_in_run (chain_of i.nearest.now) after) after) new)) given
      (refines (record { pieces = captured.pieces }) captures))
