-- The scope frame of a partial call is the layer that the code enters, and what is rendered within it.
use Rattle.std.proofs.Common.{rules, ◌≡◌, ◌+◌, ℕ, Bool, true, false, List, [], ◌∷◌, Option, Some, None, Result, Err, refl, sym, ap, ◌∙◌, subst}
use Rattle.std.specs.Prelude.{option_map, string_bytes, String}
use denote.Ref.{Bor}
use Rattle.std.specs.Str.{bytes_eq}
use Rattle.std.specs.declared.alloc.Global.{Global}
use Rattle.std.specs.declared.io.Error.{Error}
use Rattle.serde_json.specs.Data.{Data}
use Rattle.handlebars_base.specs.Bytes.{Text}
use Rattle.handlebars_base.specs.Answers.{IsRefusal}
use Rattle.handlebars_base.specs.Reasons.{partial_not_found}
use Rattle.handlebars_base.specs.RenderRefusals.{plain_refusal}
use Rattle.handlebars_base.specs.declared.error.render_error.RenderError.{RenderError}
use Rattle.handlebars_template.specs.Tree.{Tree, body, decorator_body, decorator_marks, no_body}
use Rattle.handlebars_template.specs.TreeView.{body_view, decorator_view}
use Rattle.handlebars_template.specs.declared.template.tree.BlockParam.{the_lemmas}
use Rattle.handlebars_template.specs.declared.template.tree.DecoratorTemplate.{DecoratorTemplate, out-DecoratorTemplate}
use Rattle.handlebars_template.specs.declared.template.tree.Template as tree
use Rattle.handlebars_helpers.specs.CallView.{CallView}
use Rattle.handlebars_helpers.specs.Decoration.{DecoratorView}
use Rattle.handlebars_scope.specs.Contexts.{data_of}
use Rattle.handlebars_scope.specs.Merged.{merge}
use Rattle.handlebars_scope.specs.Scopes.{Frame}
use Rattle.handlebars_semantics.specs.Inclusion.{begin_inclusion, end_inclusion, inclusion_frame, is_current, joined_indent, named_as_before, registered_or_own}
use Rattle.handlebars_semantics.specs.Including.{include, include_found, include_partial, include_tree, partial_block_name}
use Rattle.handlebars_semantics.specs.Means.{shown_tag}
use Rattle.handlebars_semantics.specs.Occurrences.{Around, Occurrence, Template, around, as_part, body_at, included_at, the_included, whereabouts}
use Rattle.handlebars_semantics.specs.Pieces.{Piece}
use Rattle.handlebars_semantics.specs.State.{CapturedBlocks, Parts, Setting, State, nearest_variables, outer_frames, partial_in, push_frame}
use Rattle.handlebars_semantics.specs.Steps.{Prog, return}
use Rattle.handlebars_layers.specs.Chain.{Chain, outer_chain, partial_layer, value_layer}
use Rattle.handlebars_layers.specs.PartialsView.{partials_of}
use Rattle.handlebars_layers.specs.ScopeFrames.{IsEntered, scope_frames}
use Rattle.handlebars_layers.specs.declared.innermost.Innermost.{Innermost}
use Rattle.handlebars_layers.proofs.Entering.{enters-inclusion}
use Rattle.handlebars_layers.proofs.ScopeFrames.{leaves-outer}
use Rattle.handlebars_expand.specs.View.{with_current}
use Rattle.handlebars_expand.specs.declared.ahead.Captured.{Captured}
use Rattle.handlebars_values.specs.RunView.{HasSamePartials, run_state}
use Rattle.handlebars_values.specs.View.{CapturedIn, Within, frames_in_run, setting_in, state_with}
use Rattle.handlebars_values.specs.declared.environment.Environment as declared
use Rattle.handlebars_values.specs.declared.run.Run.{Run}
use Rattle.handlebars_write.specs.View.{Answered, Holding, Moment, RefinesAhead, RefinesProg, moment_at}
use Rattle.handlebars_write.proofs.Includes.{includes-own, includes-registered, own-none, own-some, state_in_inclusion}
use Rattle.handlebars_elements.specs.Left.{part_view}
use Rattle.handlebars_elements.specs.View.{IsUnchanged}
use Rattle.handlebars_elements.proofs.InLayers.{state_in}

-- ---- tags

decorator_body-view : (t : DecoratorTemplate) → decorator_body (decorator_view t) ≡ body_view (out-DecoratorTemplate t).template
decorator_body-view t = search (rules, the_lemmas)

decorator_indent-view : (t : DecoratorTemplate) → (decorator_marks (decorator_view t)).indent ≡ option_map string_bytes (out-DecoratorTemplate t).indent
decorator_indent-view t = search (rules, the_lemmas)

through-text : (o : Option (Bor (String Global))) → option_map string_bytes (option_map (λ t. t.now) o) ≡ option_map (λ t. string_bytes t.now) o
through-text None = refl
through-text (Some t) = refl

part-body : (o : Option (Bor tree.Template)) → part_view o ≡ body_view (option_map (λ b. b.now) o)
part-body None = refl
part-body (Some b) = refl

-- the tag as the definition shows it
pub tag-shown : (t : DecoratorTemplate) (v : CallView) (force indent : Option Text) (part : Option (Bor tree.Template))
    (own : Option (Bor (String Global))) → option_map (λ b. b.now) part ≡ (out-DecoratorTemplate t).template
    → option_map (λ i. i.now) own ≡ (out-DecoratorTemplate t).indent
    → indent ≡ joined_indent force (option_map (λ i. string_bytes i.now) own)
    → record { call = v; body = part_view part; indent = indent } ≡ shown_tag force (decorator_view t) v
tag-shown t v force indent part own same-body same-indent joined =
    let b : part_view part ≡ decorator_body (decorator_view t) =
    part-body part ∙ ap body_view same-body ∙ sym (decorator_body-view t) in
    let i : indent ≡ joined_indent force (decorator_marks (decorator_view t)).indent =
    joined ∙ ap (joined_indent force)
    (sym (through-text own) ∙ ap (option_map string_bytes) same-indent ∙ sym (decorator_indent-view t)) in
    λ j. record { call = v; body = b j; indent = i j }

-- what is around a tree that is included
pub around-included : {asks : Bool} {v : Around} (occurrence : Occurrence) (name : Option Text) (t : Tree) (template : Template)
    → template ≡ the_included name → (asks ≡ true → (whereabouts occurrence).around ≡ v) → asks ≡ true
    → around (included_at occurrence name t) ≡ record { template = template; iterations = v.iterations }
around-included {v = v} occurrence name t template same known is =
    ap (λ (z : Around). record { template = the_included name; iterations = z.iterations }) (known is)
    ∙ ap (λ (z : Template). record { template = z; iterations = v.iterations }) (sym same)

-- ---- the setting in another layer

module _ {P : Type 0} (parts : P → Parts) (x : declared.Environment P) (i : Innermost) (given : i.given ≡ x.innermost.given) where
  same-setting : setting_in parts (record x { innermost = i }) ≡ setting_in parts x
  same-setting = ap (λ (c : _). record { given = data_of c.now; parts = parts x.inclusion.now.parts.now }) given

  pub prog-nearer : {m : Prog (Unit {0})} {may : Error → Type 0} {before after : Moment} {r : Answered}
      → RefinesProg (setting_in parts (record x { innermost = i })) m may before r after → RefinesProg (setting_in parts x) m may before r after
  prog-nearer {m = m} {may = may} {before = before} {after = after} {r = r} refines =
      subst (λ (p : Setting). RefinesProg p m may before r after) same-setting refines

  pub ahead-nearer : {asks : Bool} {m : Prog (List Piece)} {may : Error → Type 0} {before after : Moment} {r : Result Captured RenderError}
      → RefinesAhead asks (setting_in parts (record x { innermost = i })) m may before r after
      → RefinesAhead asks (setting_in parts x) m may before r after
  ahead-nearer {asks = asks} {m = m} {may = may} {before = before} {after = after} {r = r} refines =
      subst (λ (p : Setting). RefinesAhead asks p m may before r after) same-setting refines

-- ---- states

-- The frame is entered, and the current name is taken.
pub begins-inclusion : {w : Within} (captured : CapturedIn w) (layer : Chain) (d value : Data) (hs bound : List (Text × Data))
    (before entered taken : Run) → IsEntered (partials_of entered.partials) (partials_of before.partials) w.layers
    → ((fs : List Frame) → run_state fs entered ≡ run_state fs before)
    → ((fs : List Frame) → run_state fs taken ≡ record (run_state fs entered) { current = None }) → HasSamePartials entered taken
    → layer ≡ value_layer value (partial_layer bound) w.layers → value ≡ merge d hs → bound ≡ hs
    → state_in captured (frames_in_run layer taken) taken
    ≡ with_current None (push_frame (inclusion_frame d hs (nearest_variables (frames_in_run w.layers before))) (state_with captured before))
begins-inclusion {w = w} captured layer d value hs bound before entered taken enters alike takes same is merged bound-is =
    ap (λ (ps : _). state_in captured (scope_frames (partials_of ps) layer) taken) same
    ∙ ap (λ (l : Chain). state_in captured (scope_frames (partials_of entered.partials) l) taken)
    (is ∙ ap (λ (e : Data). value_layer e (partial_layer bound) w.layers) merged
    ∙ ap (λ (bs : List (Text × Data)). value_layer (merge d hs) (partial_layer bs) w.layers) bound-is)
    ∙ ap (λ (fs : List Frame). state_in captured fs taken)
    (enters-inclusion (partials_of entered.partials) (partials_of before.partials) w.layers d hs enters)
    ∙ ap (λ (s : State). record s { indent = w.indent; captured = captured.pieces; inclusions = w.inclusions })
    (takes (inclusion_frame d hs (nearest_variables (frames_in_run w.layers before)) ∷ frames_in_run w.layers before)
    ∙ ap (λ (s : State). record s { current = None })
    (alike (inclusion_frame d hs (nearest_variables (frames_in_run w.layers before)) ∷ frames_in_run w.layers before)))

-- The inclusion is begun in that frame, with these pieces captured for it.
pub starts-inclusion : {w : Within} (captured : CapturedIn w) (indent : Option Text) (k : Option (List Piece)) (count : ℕ) (fs : List Frame)
    (frame : Frame) (before taken : Run)
    → state_in captured fs taken ≡ with_current None (push_frame frame (state_with captured before)) → count ≡ w.inclusions + 1
    → state_in_inclusion indent (k ∷ captured.pieces) count (run_state fs taken)
    ≡ with_current None (begin_inclusion indent k (push_frame frame (state_with captured before)))
starts-inclusion captured indent k count fs frame before taken begins more =
    ap (state_in_inclusion indent (k ∷ captured.pieces) count) begins
    ∙ ap (λ n. state_in_inclusion indent (k ∷ captured.pieces) n (with_current None (push_frame frame (state_with captured before)))) more

-- The frame is left, and the name is the one before.
pub ends-inclusion : {w : Within} (captured : CapturedIn w) (layer : Chain) (indent : Option Text) (k : CapturedBlocks) (count : ℕ)
    (s : State) (name : Option Text) (last left : Run) → outer_chain layer ≡ Some w.layers
    → ((fs : List Frame) → run_state fs left ≡ record (run_state fs last) { current = name }) → HasSamePartials last left
    → name ≡ s.current → s.indent ≡ w.indent → s.captured ≡ captured.pieces → s.inclusions ≡ w.inclusions
    → state_with captured left ≡ end_inclusion s (state_in_inclusion indent k count (run_state (frames_in_run layer last) last))
ends-inclusion {w = w} captured layer indent k count s name last left outer leaves same named indented pieces inclusions =
    ap (λ (ps : _). state_in captured (scope_frames (partials_of ps) w.layers) left) same
    ∙ ap (λ (fs : List Frame). state_in captured fs left) (sym (leaves-outer (partials_of last.partials) layer w.layers outer))
    ∙ ap (λ (z : State). record z { indent = w.indent; captured = captured.pieces; inclusions = w.inclusions })
    (leaves (outer_frames (frames_in_run layer last))
    ∙ ap (λ (n : Option Text). record (run_state (outer_frames (frames_in_run layer last)) last) { current = n }) named)
    ∙ (λ j. record (run_state (outer_frames (frames_in_run layer last)) last) {
      current = s.current;
      indent = sym indented j;
      captured = sym pieces j;
      inclusions = sym inclusions j;
    })

-- the name is taken, or the one before is current again
pub taken-name : {w : Within} (captured : CapturedIn w) (before taken : Run)
    → ((fs : List Frame) → run_state fs taken ≡ record (run_state fs before) { current = None }) → HasSamePartials before taken
    → state_with captured taken ≡ with_current None (state_with captured before)
taken-name {w = w} captured before taken takes same =
    ap (λ (ps : _). state_in captured (scope_frames (partials_of ps) w.layers) taken) same
    ∙ ap (λ (s : State). record s { indent = w.indent; captured = captured.pieces; inclusions = w.inclusions })
    (takes (frames_in_run w.layers before))

pub left-name : {w : Within} (captured : CapturedIn w) (s : State) (name : Option Text) (last left : Run)
    → ((fs : List Frame) → run_state fs left ≡ record (run_state fs last) { current = name }) → HasSamePartials last left
    → name ≡ s.current → s.indent ≡ w.indent → state_with captured left ≡ named_as_before s (state_with captured last)
left-name {w = w} captured s name last left leaves same named indented =
    ap (λ (ps : _). state_in captured (scope_frames (partials_of ps) w.layers) left) same
    ∙ ap (λ (z : State). record z { indent = w.indent; captured = captured.pieces; inclusions = w.inclusions })
    (leaves (frames_in_run w.layers last))
    ∙ (λ j. record (state_with captured last) { current = named j; indent = sym indented j })

-- only the name is changed
pub unchanged-named : (before after : Run) (name : Option Text)
    → ((fs : List Frame) → run_state fs after ≡ record (run_state fs before) { current = name }) → IsUnchanged before after
unchanged-named before after name is =
    record { recursive = ap (λ (s : State). s.recursive) (is []); escapes = ap (λ (s : State). s.escapes) (is []) }

pub unchanged-then : (a b c : Run) → IsUnchanged a b → IsUnchanged b c → IsUnchanged a c
unchanged-then a b c first second =
    record { recursive = second.recursive ∙ first.recursive; escapes = second.escapes ∙ first.escapes }

-- ---- which tree is included

module _ (p : Setting) (may : Error → Type 0) (v : DecoratorView) (occurrence : Occurrence) where
  -- neither the current template, nor the captured text, nor a local partial
  pub includes-other : {s : State} {h : Holding} {after : Moment} {r : Answered} → is_current v.call.name s.current ≡ false
      → bytes_eq partial_block_name v.call.name ≡ false → None ≡ partial_in s.blocks v.call.name
      → RefinesProg p (include_partial occurrence v (registered_or_own (p.parts.template v.call.name) v.body)) may (moment_at s h) r after
      → RefinesProg p (include occurrence v) may (moment_at s h) r after
  includes-other {s = s} {h = h} {after = after} {r = r} not_self other none x =
      by-registered (p.parts.template v.call.name) refl x
    where
      by-registered : (o : Option Tree) → p.parts.template v.call.name ≡ o
          → RefinesProg p (include_partial occurrence v (registered_or_own o v.body)) may (moment_at s h) r after
          → RefinesProg p (include occurrence v) may (moment_at s h) r after
      by-registered None is y = includes-own p may v occurrence not_self other none (sym is) y
      by-registered (Some t) is y = includes-registered p may v occurrence t not_self other none (sym is) y

  pub other-registered : (t : Tree) {before after : Moment} {r : Answered} → Some t ≡ p.parts.template v.call.name
      → RefinesProg p (include_found occurrence v (Some v.call.name) t) may before r after
      → RefinesProg p (include_partial occurrence v (registered_or_own (p.parts.template v.call.name) v.body)) may before r after
  other-registered t {before = before} {after = after} {r = r} is x =
      subst (λ (o : Option Tree). RefinesProg p (include_partial occurrence v (registered_or_own o v.body)) may before r after) is x

  pub other-own : (t : Tree) {before after : Moment} {r : Answered} → None ≡ p.parts.template v.call.name → body t ≡ v.body
      → RefinesProg p (include_tree v (body_at occurrence (as_part 0)) t (return None)) may before r after
      → RefinesProg p (include_partial occurrence v (registered_or_own (p.parts.template v.call.name) v.body)) may before r after
  other-own t {before = before} {after = after} {r = r} none is x =
      subst (λ (o : Option Tree). RefinesProg p (include_partial occurrence v (registered_or_own o v.body)) may before r after) none
      (own-some p may v occurrence v.body t is x)

  pub other-none : {s next : State} {h : Holding} (e : RenderError) → None ≡ p.parts.template v.call.name → no_body ≡ v.body
      → IsRefusal (plain_refusal (partial_not_found v.call.name)) e
      → RefinesProg p (include_partial occurrence v (registered_or_own (p.parts.template v.call.name) v.body)) may (moment_at s h) (Err e)
      (moment_at next h)
  other-none {s = s} {next = next} {h = h} e none is why =
      subst (λ (o : Option Tree). RefinesProg p (include_partial occurrence v (registered_or_own o v.body)) may (moment_at s h) (Err e) (moment_at next h)) none
      (own-none p may v occurrence v.body e is why)
