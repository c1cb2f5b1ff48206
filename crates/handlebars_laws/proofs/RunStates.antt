-- States of a run: what is captured has origins, indentations are those of inclusions, and partials are those of the run.
use Rattle.std.proofs.Common.{◌≡◌, List, [], ◌∷◌, ◌++◌, append-nil, Bool, true, false, refl, sym, ap, ◌∙◌, subst, Option, Some, None, unwrap_or, option_and_then, cond, arith}
use Rattle.std.specs.List.{AllByRecursion, Contains}
use Rattle.std.specs.Str.{bytes_eq}
use Rattle.std.proofs.lemmas.Slice.Eq.{bytes_eq-Decides}
use Rattle.std.proofs.lemmas.List.Elements.{Contains-append_right}
use Rattle.serde_json.specs.Data.{Data}
use Rattle.handlebars_base.specs.Bytes.{Text}
use Rattle.handlebars_template.specs.Tree.{Tree, Binding, Decorator, decorator_marks}
use Rattle.handlebars_scope.specs.Resolve.{or_else}
use Rattle.handlebars_scope.specs.Scopes.{Frame, empty_frame, Base, at_path, at_value, frame_at}
use Rattle.handlebars_helpers.specs.CallView.{CallView}
use Rattle.handlebars_helpers.specs.Iterations.{Iteration, iteration_base, iteration_frame, with_frame}
use Rattle.handlebars_semantics.specs.Inclusion.{is_own_block, newest, joined_indent}
use Rattle.handlebars_semantics.specs.Laws.{IsPlain}
use Rattle.handlebars_semantics.specs.Origins.{inclusion_tag, tree_occurrence_of, element_at, IsTagged, Finds, AreIndents, around_first, around_included, around_own_block, HaveOrigins, IsLocalOfRun, in_block_before}
use Rattle.handlebars_semantics.specs.Occurrences.{as_part, first_tree, body_at, included_at, Occurrence}
use Rattle.handlebars_semantics.specs.State.{CapturedBlocks, Setting, State, outer_frames, nearest_as, partial_in, with_partial}
use Rattle.handlebars_semantics.specs.Visits.{Visit}
use Rattle.handlebars_laws.proofs.Closed.{MayCapture}

-- ---- indentations

pub joined_indent-own : (i own : Option Text) → unwrap_or (joined_indent i own) [] ≡ unwrap_or i [] ++ unwrap_or own []
joined_indent-own None None = refl
joined_indent-own None (Some own) = refl
joined_indent-own (Some i) None = sym (append-nil i)
joined_indent-own (Some i) (Some own) = refl

module _ {p : Setting} {u : Tree} {vs : List Visit} where
  pub included_at-indents : (occurrence : Occurrence) (name : Option Text) (x : Tree) (tag : Decorator) (i : Option Text)
      → AreIndents p u vs (tree_occurrence_of occurrence) (unwrap_or i []) → option_and_then inclusion_tag (element_at u occurrence) ≡ Some tag
      → AreIndents p u vs (included_at occurrence name x) (unwrap_or (joined_indent i (decorator_marks tag).indent) [])
  included_at-indents occurrence name x tag i h is =
      subst (AreIndents p u vs (included_at occurrence name x)) (sym (joined_indent-own i (decorator_marks tag).indent))
      (around_included h is)

  pub own_block-indents : (occurrence : Occurrence) (x : Tree) (tag : Decorator) (s : State) (v : CallView) (i : Option Text)
      → AreIndents p u vs (tree_occurrence_of occurrence) (unwrap_or i []) → IsTagged p u vs occurrence inclusion_tag tag s v
      → Finds p tag s v (is_own_block x)
      → AreIndents p u vs (body_at occurrence (as_part 0)) (unwrap_or (joined_indent i (decorator_marks tag).indent) [])
  own_block-indents occurrence x tag s v i h is finds =
      subst (AreIndents p u vs (body_at occurrence (as_part 0))) (sym (joined_indent-own i (decorator_marks tag).indent))
      (around_own_block h is finds)

  pub no_indent-indents : (i : Option Text) → i ≡ None → AreIndents p u vs first_tree (unwrap_or i [])
  no_indent-indents None is = around_first
  no_indent-indents (Some t) is = cc

-- ---- partials

pub None≢Some : {P : Type 0} {t : Tree} → None ≡ Some t → P
None≢Some e = cc

tree_or : Tree → Option Tree → Tree
tree_or d None = d
tree_or d (Some t) = t

pub Some-injective : (x t : Tree) → Some x ≡ Some t → x ≡ t
unfolding tree_or
Some-injective x t is = ap (tree_or x) is

-- a scope frame's partials don't depend on where it is
frame_at-partial : (base : Base) (f : Frame) (n : Text) → (frame_at base f).partial n ≡ f.partial n
frame_at-partial (at_path path) f n = refl
frame_at-partial (at_value d) f n = refl

-- ---- states

module _ (p : Setting) (u : Tree) (blocks : List Frame) (vs : List Visit) where
  -- a scope frame with no other partials than those of the run
  abbrev pub IsFrameOfRun : Frame → Type 0
  IsFrameOfRun f = (n : Text) (t : Tree) → f.partial n ≡ Some t → IsLocalOfRun p u blocks vs n t

  -- Of the fields that matter, so that a change of any other preserves it.
  pub record AreOfRun (ks : CapturedBlocks) (fs : List Frame) : Type 0 where
    pub captured : AllByRecursion (MayCapture (HaveOrigins p u vs)) ks
    pub frames : AllByRecursion IsFrameOfRun fs

  abbrev pub IsOfRun : State → Type 0
  IsOfRun s = AreOfRun s.captured s.blocks

  -- a state after another one: escaping and the indentation are as they were
  pub record IsReachedFrom (s n : State) : Type 0 where
    pub escapes : n.escapes ≡ s.escapes
    pub indent : n.indent ≡ s.indent
    pub of_run : IsOfRun n

  pub newest-origins : (ks : CapturedBlocks) → AllByRecursion (MayCapture (HaveOrigins p u vs)) ks
      → MayCapture (HaveOrigins p u vs) (newest ks)
  newest-origins [] h = tt
  newest-origins (k ∷ ks) h = h.0

  pub outer_frames-frames : (fs : List Frame) → AllByRecursion IsFrameOfRun fs → AllByRecursion IsFrameOfRun (outer_frames fs)
  outer_frames-frames [] h = tt
  outer_frames-frames (f ∷ fs) h = h.1

  pub nearest_as-frames : (change : Frame → Frame) (fs : List Frame)
      → ((f : Frame) → IsFrameOfRun f → IsFrameOfRun (change f)) → AllByRecursion IsFrameOfRun fs
      → AllByRecursion IsFrameOfRun (nearest_as change fs)
  nearest_as-frames change [] g h = tt
  nearest_as-frames change (f ∷ fs) g h = (g f h.0, h.1)

  or_else-local : (n : Text) (a b : Option Tree) (t : Tree) → (a ≡ Some t → IsLocalOfRun p u blocks vs n t)
      → (b ≡ Some t → IsLocalOfRun p u blocks vs n t) → or_else a b ≡ Some t → IsLocalOfRun p u blocks vs n t
  or_else-local n None b t f g is = g is
  or_else-local n (Some x) b t f g is = f is

  pub partial_in-local : (fs : List Frame) → AllByRecursion IsFrameOfRun fs → (n : Text) (t : Tree)
      → partial_in fs n ≡ Some t → IsLocalOfRun p u blocks vs n t
  partial_in-local [] h n t is = cc
  partial_in-local (f ∷ fs) h n t is =
      or_else-local n (f.partial n) (partial_in fs n) t (h.0 n t) (partial_in-local fs h.1 n t) is

  -- a partial that is set under a name, and read by another one
  put_at-local : (b : Bool) (name n : Text) (x : Tree) (o : Option Tree) (t : Tree) → (b ≡ true → name ≡ n)
      → IsLocalOfRun p u blocks vs name x → (o ≡ Some t → IsLocalOfRun p u blocks vs n t) → cond b (Some x) o ≡ Some t
      → IsLocalOfRun p u blocks vs n t
  put_at-local true name n x o t same f g is =
      subst (IsLocalOfRun p u blocks vs n) (Some-injective x t is)
      (subst (λ (m : Text). IsLocalOfRun p u blocks vs m x) (same refl) f)
  put_at-local false name n x o t same f g is = g is

  pub with_partial-frame : (name : Text) (x : Tree) → IsLocalOfRun p u blocks vs name x → (f : Frame) → IsFrameOfRun f
      → IsFrameOfRun (with_partial name x f)
  with_partial-frame name x h f g = λ n t is.
      put_at-local (bytes_eq name n) name n x (f.partial n) t (bytes_eq-Decides name n).0 h (g n t) is

  pub iteration_frame-frame : (path : Option (List Text)) (b : Binding) (t : Iteration) (f : Frame) → IsFrameOfRun f
      → IsFrameOfRun (iteration_frame path b t f)
  iteration_frame-frame path b t f h = λ n x is. h n x (sym (frame_at-partial (iteration_base path t) f n) ∙ is)

  pub with_frame-frame : (base : Base) (b : Binding) (variables : Text → Option Data)
      → IsFrameOfRun (with_frame base b variables)
  with_frame-frame base b variables = λ n x is. None≢Some (sym (frame_at-partial base empty_frame n) ∙ is)

  -- ---- where a run begins

  no_captured-origins : (ks : CapturedBlocks) → ks ≡ [] → AllByRecursion (MayCapture (HaveOrigins p u vs)) ks
  no_captured-origins [] is = tt
  no_captured-origins (k ∷ ks) is = cc

  first_frames : (fs : List Frame) → ((f : Frame) → Contains fs f → Contains blocks f) → AllByRecursion IsFrameOfRun fs
  first_frames [] are = tt
  first_frames (f ∷ fs) are = (
    λ n t is. in_block_before f (are f (0, omega arith, refl)) is,
    first_frames fs (λ g has. are g (Contains-append_right (f ∷ []) fs g has)),
  )

  pub first-of_run : (s : State) → IsPlain s → ((f : Frame) → Contains s.blocks f → Contains blocks f) → IsOfRun s
  first-of_run s plain are = record {
    captured = no_captured-origins s.captured plain.captured;
    frames = first_frames s.blocks are;
  }
