-- States of two runs over data that is equal up to texts, and what changes them equally.
use Rattle.std.proofs.Common.{◌≡◌, ℕ, ◌+◌, Bool, true, false, List, [], ◌∷◌, Option, None, Some, cond, unwrap_or, refl, sym, ap, ◌∙◌, subst}
use Rattle.std.specs.List.{AllByRecursion}
use Rattle.std.specs.Str.{bytes_eq}
use Rattle.serde_json.specs.Data.{Data}
use Rattle.handlebars_base.specs.Bytes.{Text}
use Rattle.handlebars_base.specs.EscapeLaws.{marks_in}
use Rattle.handlebars_template.specs.Tree.{Tree, Binding}
use Rattle.handlebars_scope.specs.Resolve.{or_else}
use Rattle.handlebars_scope.specs.Scopes.{Frame, empty_frame, Base, at_path, at_value, frame_at}
use Rattle.handlebars_helpers.specs.Callee.{LocalHelper}
use Rattle.handlebars_helpers.specs.UserAnswers.{Registrations}
use Rattle.handlebars_helpers.specs.Iterations.{Iteration, iteration_base, iteration_frame, with_frame}
use Rattle.handlebars_semantics.specs.Inclusion.{newest, begin_inclusion, named_as_before, end_inclusion}
use Rattle.handlebars_semantics.specs.Pieces.{Piece}
use Rattle.handlebars_semantics.specs.State.{CapturedBlocks, State, first_state, push_frame, outer_frames, pop_frame, nearest_as, with_nearest, partial_in, with_partial}
use Rattle.handlebars_laws.proofs.RunStates.{None≢Some, Some-injective}
use Rattle.handlebars_markup.specs.Alike.{AreAlike}
use Rattle.handlebars_markup.specs.Blind.{IsBlindTree}
use Rattle.handlebars_markup.specs.TwoRuns.{HaveSameMarkup}
use Rattle.handlebars_markup.proofs.Alikeness.{AreAlikeOptions, AreAlikeLists, AreAlikeFrames}
use Rattle.handlebars_markup.proofs.Frames.{empty_frame-alike, outer_frames-alike, nearest_as-alike}

-- what is captured in both: pieces with the same markup, or none
abbrev pub AreAlikeCaptured : Option (List Piece) → Option (List Piece) → Type 0
AreAlikeCaptured = AreAlikeOptions HaveSameMarkup

pub newest-alike : (ks ls : CapturedBlocks) → AreAlikeLists AreAlikeCaptured ks ls → AreAlikeCaptured (newest ks) (newest ls)
newest-alike [] [] h = tt
newest-alike (k ∷ ks) (l ∷ ls) h = h.0
newest-alike ks ls h = absurd h

module _ (r : Registrations) where
  -- a scope frame whose partials are blind
  abbrev pub IsBlindFrame : Frame → Type 0
  IsBlindFrame f = (n : Text) (t : Tree) → f.partial n ≡ Some t → IsBlindTree r t

  -- Of the fields of two states. Their lines may differ: they say where indentation goes, and that has no marks.
  pub record HaveAlikeFields (c c' : Option Text) (fs gs : List Frame) (b b' e e' : Bool) (i i' : Option Text)
      (ks ks' : CapturedBlocks) (n n' : ℕ) (d d' : Option Data) (l l' : Text → Option LocalHelper) : Type 0 where
    pub current : c ≡ c'
    pub blocks : AreAlikeLists AreAlikeFrames fs gs
    pub partials : AllByRecursion IsBlindFrame fs
    pub recursive : b ≡ b'
    pub escapes : e ≡ true
    pub escapes_too : e' ≡ true
    pub indent : i ≡ i'
    pub unmarked : marks_in (unwrap_or i []) ≡ []
    pub captured : AreAlikeLists AreAlikeCaptured ks ks'
    pub inclusions : n ≡ n'
    pub changed : AreAlikeOptions AreAlike d d'
    pub no_local : (name : Text) → l name ≡ None
    pub no_local_too : (name : Text) → l' name ≡ None

  abbrev pub AreAlikeStates : State → State → Type 0
  AreAlikeStates s t =
      HaveAlikeFields s.current t.current s.blocks t.blocks s.recursive t.recursive s.escapes t.escapes s.indent t.indent
      s.captured t.captured s.inclusions t.inclusions s.changed t.changed s.local t.local

  pub first_state-alike : (recursive : Bool) → AreAlikeStates (first_state recursive) (first_state recursive)
  first_state-alike recursive = record {
    current = refl;
    blocks = (empty_frame-alike, tt);
    partials = ((λ n t is. None≢Some is), tt);
    recursive = refl;
    escapes = refl;
    escapes_too = refl;
    indent = refl;
    unmarked = refl;
    captured = tt;
    inclusions = refl;
    changed = tt;
    no_local = λ n. refl;
    no_local_too = λ n. refl;
  }

  -- ---- partials

  -- a scope frame's partials don't depend on where it is
  frame_at-partial : (base : Base) (f : Frame) (n : Text) → (frame_at base f).partial n ≡ f.partial n
  frame_at-partial (at_path path) f n = refl
  frame_at-partial (at_value d) f n = refl

  pub empty_frame-blind : IsBlindFrame empty_frame
  empty_frame-blind = λ n t is. None≢Some is

  pub iteration_frame-blind : (path : Option (List Text)) (b : Binding) (t : Iteration) (f : Frame) → IsBlindFrame f
      → IsBlindFrame (iteration_frame path b t f)
  iteration_frame-blind path b t f h = λ n x is. h n x (sym (frame_at-partial (iteration_base path t) f n) ∙ is)

  pub with_frame-blind : (base : Base) (b : Binding) (variables : Text → Option Data)
      → IsBlindFrame (with_frame base b variables)
  with_frame-blind base b variables = λ n x is. None≢Some (sym (frame_at-partial base empty_frame n) ∙ is)

  put_at-blind : (b : Bool) (x : Tree) (o : Option Tree) (t : Tree) → IsBlindTree r x
      → (o ≡ Some t → IsBlindTree r t) → cond b (Some x) o ≡ Some t → IsBlindTree r t
  put_at-blind true x o t h g is = subst (IsBlindTree r) (Some-injective x t is) h
  put_at-blind false x o t h g is = g is

  pub with_partial-blind : (name : Text) (x : Tree) → IsBlindTree r x → (f : Frame) → IsBlindFrame f
      → IsBlindFrame (with_partial name x f)
  with_partial-blind name x h f g = λ n t is. put_at-blind (bytes_eq name n) x (f.partial n) t h (g n t) is

  or_else-blind : (a b : Option Tree) (t : Tree) → (a ≡ Some t → IsBlindTree r t) → (b ≡ Some t → IsBlindTree r t)
      → or_else a b ≡ Some t → IsBlindTree r t
  or_else-blind None b t f g is = g is
  or_else-blind (Some x) b t f g is = f is

  pub partial_in-blind : (fs : List Frame) → AllByRecursion IsBlindFrame fs → (n : Text) (t : Tree)
      → partial_in fs n ≡ Some t → IsBlindTree r t
  partial_in-blind [] h n t is = cc
  partial_in-blind (f ∷ fs) h n t is =
      or_else-blind (f.partial n) (partial_in fs n) t (h.0 n t) (partial_in-blind fs h.1 n t) is

  outer_frames-blind : (fs : List Frame) → AllByRecursion IsBlindFrame fs → AllByRecursion IsBlindFrame (outer_frames fs)
  outer_frames-blind [] h = tt
  outer_frames-blind (f ∷ fs) h = h.1

  nearest_as-blind : (x : Frame → Frame) (fs : List Frame) → ((f : Frame) → IsBlindFrame f → IsBlindFrame (x f))
      → AllByRecursion IsBlindFrame fs → AllByRecursion IsBlindFrame (nearest_as x fs)
  nearest_as-blind x [] k h = tt
  nearest_as-blind x (f ∷ fs) k h = (k f h.0, h.1)

  -- ---- changes of the scope frames

  with_blocks : (s t : State) (fs gs : List Frame) → AreAlikeStates s t → AreAlikeLists AreAlikeFrames fs gs
      → AllByRecursion IsBlindFrame fs → AreAlikeStates (record s { blocks = fs }) (record t { blocks = gs })
  with_blocks s t fs gs h k blind = record {
    current = h.current;
    blocks = k;
    partials = blind;
    recursive = h.recursive;
    escapes = h.escapes;
    escapes_too = h.escapes_too;
    indent = h.indent;
    unmarked = h.unmarked;
    captured = h.captured;
    inclusions = h.inclusions;
    changed = h.changed;
    no_local = h.no_local;
    no_local_too = h.no_local_too;
  }

  pub push_frame-alike : (s t : State) (f g : Frame) → AreAlikeStates s t → AreAlikeFrames f g → IsBlindFrame f
      → AreAlikeStates (push_frame f s) (push_frame g t)
  push_frame-alike s t f g h k blind = with_blocks s t (f ∷ s.blocks) (g ∷ t.blocks) h (k, h.blocks) (blind, h.partials)

  pub pop_frame-alike : (s t : State) → AreAlikeStates s t → AreAlikeStates (pop_frame s) (pop_frame t)
  pop_frame-alike s t h = with_blocks s t (outer_frames s.blocks) (outer_frames t.blocks) h
      (outer_frames-alike s.blocks t.blocks h.blocks) (outer_frames-blind s.blocks h.partials)

  pub with_nearest-alike : (s t : State) (x y : Frame → Frame) → AreAlikeStates s t
      → ((f g : Frame) → AreAlikeFrames f g → AreAlikeFrames (x f) (y g)) → ((f : Frame) → IsBlindFrame f → IsBlindFrame (x f))
      → AreAlikeStates (with_nearest x s) (with_nearest y t)
  with_nearest-alike s t x y h k blind = with_blocks s t (nearest_as x s.blocks) (nearest_as y t.blocks) h
      (nearest_as-alike x y s.blocks t.blocks k h.blocks) (nearest_as-blind x s.blocks blind h.partials)

  -- ---- other changes

  pub current-alike : (s t : State) (n : Option Text) → AreAlikeStates s t
      → AreAlikeStates (record s { current = n }) (record t { current = n })
  current-alike s t n h = record {
    current = refl;
    blocks = h.blocks;
    partials = h.partials;
    recursive = h.recursive;
    escapes = h.escapes;
    escapes_too = h.escapes_too;
    indent = h.indent;
    unmarked = h.unmarked;
    captured = h.captured;
    inclusions = h.inclusions;
    changed = h.changed;
    no_local = h.no_local;
    no_local_too = h.no_local_too;
  }

  pub named_as_before-alike : (s t n m : State) → AreAlikeStates s t → AreAlikeStates n m
      → AreAlikeStates (named_as_before s n) (named_as_before t m)
  named_as_before-alike s t n m h k = record {
    current = h.current;
    blocks = k.blocks;
    partials = k.partials;
    recursive = k.recursive;
    escapes = k.escapes;
    escapes_too = k.escapes_too;
    indent = h.indent;
    unmarked = h.unmarked;
    captured = k.captured;
    inclusions = k.inclusions;
    changed = k.changed;
    no_local = k.no_local;
    no_local_too = k.no_local_too;
  }

  pub begin_inclusion-alike : (s t : State) (i j : Option Text) (k l : Option (List Piece)) → AreAlikeStates s t → i ≡ j
      → marks_in (unwrap_or i []) ≡ [] → AreAlikeCaptured k l → AreAlikeStates (begin_inclusion i k s) (begin_inclusion j l t)
  begin_inclusion-alike s t i j k l h is unmarked same = record {
    current = h.current;
    blocks = h.blocks;
    partials = h.partials;
    recursive = h.recursive;
    escapes = h.escapes;
    escapes_too = h.escapes_too;
    indent = is;
    unmarked = unmarked;
    captured = (same, h.captured);
    inclusions = ap (λ n. n + 1) h.inclusions;
    changed = h.changed;
    no_local = h.no_local;
    no_local_too = h.no_local_too;
  }

  pub end_inclusion-alike : (s t n m : State) → AreAlikeStates s t → AreAlikeStates n m
      → AreAlikeStates (end_inclusion s n) (end_inclusion t m)
  end_inclusion-alike s t n m h k = record {
    current = h.current;
    blocks = outer_frames-alike n.blocks m.blocks k.blocks;
    partials = outer_frames-blind n.blocks k.partials;
    recursive = k.recursive;
    escapes = k.escapes;
    escapes_too = k.escapes_too;
    indent = h.indent;
    unmarked = h.unmarked;
    captured = h.captured;
    inclusions = h.inclusions;
    changed = k.changed;
    no_local = k.no_local;
    no_local_too = k.no_local_too;
  }
