-- Under what a law must be closed, so that all that templates do is as it says: a field for each thing that they do.
use Rattle.std.proofs.Common.{◌≡◌, ℕ, ◌+◌, List, [], ◌∷◌, Bool, true, false, ap, Option, None, Some, option_map, option_and_then}
use Rattle.std.specs.List.{Contains, slice_get}
use Rattle.serde_json.specs.Data.{Data}
use Rattle.handlebars_base.specs.Answers.{gives}
use Rattle.handlebars_base.specs.Bytes.{Text}
use Rattle.handlebars_base.specs.Reasons.{Reason}
use Rattle.handlebars_base.specs.Optional.{with_or}
use Rattle.handlebars_base.specs.Scoped.{Found, present_in}
use Rattle.handlebars_base.specs.Values.{boolean_text}
use Rattle.handlebars_template.specs.Position.{Position}
use Rattle.handlebars_template.specs.Tree.{Tree, tree, tree_name, Elements, Element, raw_string, html_expression, partial_expression, partial_block, Call, call_name, call_args, call_body, call_inverse, Decorator, decorator_name, decorator_args, decorator_body, decorator_marks, Binding, Body, no_body, body}
use Rattle.handlebars_scope.specs.LineState.{LineState}
use Rattle.handlebars_scope.specs.Scopes.{Frame, empty_frame, Base}
use Rattle.handlebars_helpers.specs.Callee.{LocalHelper}
use Rattle.handlebars_helpers.specs.CallView.{CallView}
use Rattle.handlebars_helpers.specs.Decoration.{Action, sets_data, binds, unbinds, sets_partial}
use Rattle.handlebars_helpers.specs.Choice.{the_boolean, the_steps}
use Rattle.handlebars_helpers.specs.UserHelper.{Step, writes, renders_body_in}
use Rattle.handlebars_helpers.specs.Iterations.{Iteration, iteration_frame, with_frame}
use Rattle.handlebars_semantics.specs.Inclusion.{is_local, is_registered, is_own_block, newest, inclusion_frame, joined_indent, begin_inclusion, named_as_before, end_inclusion}
use Rattle.handlebars_semantics.specs.Origins.{nth, body_tree, element_call, is_block, element_body, element_inverse, element_decorator, inclusion_tag, shown_call, is_html, Chooses, WritesValue, Shows, Finds, IsBlockAlone, SetsPartial}
use Rattle.handlebars_semantics.specs.Pieces.{of_text, of_value, of_raw, of_boolean_text, of_step, Piece, pieces_of, put}
use Rattle.handlebars_semantics.specs.Questions.{view_of, IsAnswered}
use Rattle.handlebars_semantics.specs.Occurrences.{as_part, Time, ordinal_of, TreeOccurrence, body_at, inverse_at, included_at, Occurrence, element_in}
use Rattle.handlebars_semantics.specs.State.{Setting, State, push_frame, pop_frame, with_nearest, partial_in, with_partial, with_data, with_local, without_local}
use Rattle.handlebars_semantics.specs.Steps.{Task, One, Whole}
use Rattle.handlebars_semantics.specs.Visits.{arrival}
use Rattle.handlebars_semantics.specs.Writing.{rendered_if_any}
use Rattle.handlebars_laws.proofs.Failures.{Acts, FailsItself}
use Rattle.handlebars_laws.proofs.Law.{Law}

-- ---- elements to which a run comes

-- The run comes to a call, of a block or of an expression, in a state in which it has this view.
pub record ComesToCall (p : Setting) (law : Law) (occurrence : Occurrence) (e : Element) (block : Bool) (c : Call) (s : State)
    (v : CallView) : Type 0 where
  pub comes : law.ComesTo occurrence e s
  pub shown : shown_call e ≡ Some (block, c)
  pub viewed : IsAnswered p s (view_of (call_name c) (call_args c)) (gives v)

-- The run comes to the tag of a decorator or of an inclusion, by its reader, in a state in which it has this view.
pub record ComesToTag (p : Setting) (law : Law) (occurrence : Occurrence) (e : Element) (tag_of : Element → Option Decorator)
    (t : Decorator) (s : State) (v : CallView) : Type 0 where
  pub comes : law.ComesTo occurrence e s
  pub tag : tag_of e ≡ Some t
  pub viewed : IsAnswered p s (view_of (decorator_name t) (decorator_args t)) (gives v)

-- the body and the inverse of an element are those of its call or of its tag

call_in : Option (Bool × Call) → Option Call
call_in o = option_map (λ x. x.1) o

pub call_of-shown : (b block : Bool) (o : Option Call) (c : Call)
    → option_map {U = Bool × Call} (λ d. (b, d)) o ≡ Some (block, c) → o ≡ Some c
unfolding call_in
call_of-shown b block None c is = cc
call_of-shown b block (Some d) c is = ap call_in is

pub element_body-call : (e : Element) (block : Bool) (c : Call) → shown_call e ≡ Some (block, c)
    → element_body e ≡ body_tree (call_body c)
element_body-call e block c is = ap (λ (o : Option Call). with_or o (λ d. body_tree (call_body d))
    (option_and_then (λ t. body_tree (decorator_body t)) (inclusion_tag e))) (call_of-shown (is_block e) block (element_call e) c is)

pub element_inverse-call : (e : Element) (block : Bool) (c : Call) → shown_call e ≡ Some (block, c)
    → element_inverse e ≡ body_tree (call_inverse c)
element_inverse-call e block c is =
    ap (option_and_then (λ d. body_tree (call_inverse d))) (call_of-shown (is_block e) block (element_call e) c is)

pub element_body-tag : (e : Element) (t : Decorator) → inclusion_tag e ≡ Some t → element_body e ≡ body_tree (decorator_body t)
element_body-tag (partial_expression d) t is = ap (option_and_then (λ x. body_tree (decorator_body x))) is
element_body-tag (partial_block d) t is = ap (option_and_then (λ x. body_tree (decorator_body x))) is
element_body-tag e t is = cc

-- ---- what is closed

-- The block of an inclusion is rendered ahead of it, between two states, and its text is captured. A tag without a block
-- captures nothing.
abbrev pub IsAhead : Law → Occurrence → Body → Option (List Piece) → State → State → Type 0
IsAhead law occurrence no_body k s n = (k ≡ None) × (n ≡ s)
IsAhead law occurrence (body x) k s n =
    ((ps : List Piece) × (k ≡ Some ps)) × law.IsAfter (Whole (body_at occurrence (as_part 0)) x) s n

-- the state after actions of a decorator whose tag has this body
abbrev pub after_action : Body → Action → State → State
after_action b (sets_data d) s = with_data d s
after_action b (binds name l) s = with_local name l s
after_action b (unbinds name) s = without_local name s
after_action no_body (sets_partial name) s = s
after_action (body x) (sets_partial name) s = with_nearest (with_partial name x) s

abbrev pub after_actions : Body → List Action → State → State
after_actions b [] s = s
after_actions b (action ∷ actions) s = after_actions b actions (after_action b action s)

-- what is captured of a block, if anything is, may be written
abbrev pub MayCapture : (List Piece → Type 0) → Option (List Piece) → Type 0
MayCapture may_write None = Unit {0}
MayCapture may_write (Some ps) = may_write ps

-- A partial is begun after a state, by a tag that shows its indentation in another one.
abbrev pub begun : State → Decorator → Option (List Piece) → State → State
begun s t k n = begin_inclusion (joined_indent s.indent (decorator_marks t).indent) k n

pub MayCapture-any : (captured : Option (List Piece)) → MayCapture (λ ps. Unit {0}) captured
MayCapture-any None = tt
MayCapture-any (Some ps) = tt

pub record Closed (p : Setting) (law : Law) : Type 0 where
  -- states that are next to others
  pub same_next : {s : State} → law.IsWell s → law.IsNext s s
  pub then_next : {s n z : State} → law.IsNext s n → law.IsNext n z → law.IsNext s z
  pub next_well : {s n : State} → law.IsNext s n → law.IsWell n
  pub next_fits : {occurrence : Occurrence} {b s n : State} → law.Fits occurrence b s → law.IsNext s n → law.Fits occurrence b n
  pub line_next : {s : State} (l : LineState) → law.IsWell s → law.IsNext s (record s { line = l })
  pub data_next : {s : State} (d : Data) → law.IsWell s → law.IsNext s (with_data d s)
  pub local_next : {s before : State} {occurrence : Occurrence} {e : Element} {t : Decorator} {v : CallView} {all : List Action}
      (name : Text) (l : LocalHelper) → ComesToTag p law occurrence e element_decorator t before v → Acts p t before v all
      → Contains all (binds name l) → law.IsWell s → law.IsNext s (with_local name l s)
  pub no_local_next : {s before : State} {occurrence : Occurrence} {e : Element} {t : Decorator} {v : CallView}
      {all : List Action} (name : Text) → ComesToTag p law occurrence e element_decorator t before v → Acts p t before v all
      → Contains all (unbinds name) → law.IsWell s → law.IsNext s (without_local name s)
  pub iteration_next : {s : State} (path : Option (List Text)) (b : Binding) (t : Iteration) → law.IsWell s
      → law.IsNext s (with_nearest (iteration_frame path b t) s)
  pub partial_next : {s before : State} {occurrence : Occurrence} {e : Element} {t : Decorator} {v : CallView} {name : Text} {x : Tree}
      → ComesToTag p law occurrence e element_decorator t before v → SetsPartial p t before v name x → law.IsWell s
      → law.IsNext s (with_nearest (with_partial name x) s)
  -- scope frames, and those that are entered
  pub block_well : {s : State} {f : Frame} → law.MayEnter f → law.IsWell s → law.IsWell (push_frame f s)
  pub block_fits : {occurrence : Occurrence} {b s : State} {f : Frame} → law.Fits occurrence b s
      → law.Fits occurrence b (push_frame f s)
  pub block_next : {s n : State} {f : Frame} → law.IsNext (push_frame f s) n → law.IsNext s (pop_frame n)
  pub empty_enters : law.MayEnter empty_frame
  pub with_enters : (base : Base) (b : Binding) (variables : Text → Option Data)
      → law.MayEnter (with_frame base b variables)
  pub inclusion_enters : (d : Data) (hs : List (Text × Data)) (variables : Text → Option Data)
      → law.MayEnter (inclusion_frame d hs variables)
  pub passed_enters : {occurrence : Occurrence} {e : Element} {block : Bool} {c : Call} {s : State} {v : CallView} {all : List Step}
      {f : Frame} (i : ℕ) → ComesToCall p law occurrence e block c s v → Chooses p block c s v (the_steps all)
      → slice_get all i ≡ Some (renders_body_in f) → law.MayEnter f
  -- with escaping off
  pub raw_well : {s : State} → law.IsWell s → law.IsWell (record s { escapes = false })
  pub raw_comes : {occurrence : Occurrence} {e : Element} {s : State} → law.ComesTo occurrence e s
      → law.ComesTo occurrence e (record s { escapes = false })
  pub raw_next : {s n : State} → law.IsNext (record s { escapes = false }) n
      → law.IsNext s (record n { escapes = s.escapes })
  -- inclusions: the block of a tag, what is captured of it, and a partial that is begun and is over
  pub own_next : {s n : State} {at : TreeOccurrence} {x : Tree} → law.IsWell s → law.IsAfter (Whole at x) s n
      → law.IsNext s (named_as_before s n)
  pub newest_captured : {s : State} → law.IsWell s → MayCapture law.MayWrite (newest s.captured)
  pub begun_well : {n : State} {i : Option Text} {k : Option (List Piece)} → law.IsWell n → MayCapture law.MayWrite k
      → law.IsWell (begin_inclusion i k n)
  pub over_next : {s n z : State} {f : Frame} {i : Option Text} {k : Option (List Piece)} {at : TreeOccurrence} {x : Tree}
      → law.IsWell s → law.IsNext (push_frame f s) n → law.IsAfter (Whole at x) (begin_inclusion i k n) z
      → law.IsNext s (end_inclusion s z)
  -- parts that begin, and parts of them
  pub begins_well : {t : Task} {s : State} → law.Begins t s → law.IsWell s
  pub begins_comes : {occurrence : Occurrence} {e : Element} {s : State} → law.Begins (One occurrence e) s
      → law.AreKnown (arrival (One occurrence e) s) → law.ComesTo occurrence e s
  pub begins_fits : {occurrence : Occurrence} {e : Element} {s : State} → law.Begins (One occurrence e) s
      → is_html e ≡ false → law.Fits occurrence s s
  pub begins_raw : {occurrence : Occurrence} {c : Call} {s : State}
      → law.Begins (One occurrence (html_expression c)) s
      → law.Fits occurrence (record s { escapes = false }) (record s { escapes = false })
  pub element_part : {at : TreeOccurrence} {n : Option Text} {es : Elements} {positions : List Position} {e : Element}
      {s z : State} (i : ℕ) → law.Begins (Whole at (tree n es positions)) s → nth es i ≡ Some e
      → law.IsAmid (Whole at (tree n es positions)) i s z
      → law.IsPart (Whole at (tree n es positions)) i z (One (element_in at i (slice_get positions i)) e)
  pub body_part : {occurrence : Occurrence} {e : Element} {c : Call} {t : Tree} {before s : State} (time : Time)
      → law.ComesTo occurrence e before → element_call e ≡ Some c → element_body e ≡ Some t → law.Fits occurrence before s
      → law.IsWell s
      → law.IsPart (One occurrence e) (ordinal_of time) s (Whole (body_at occurrence time) t)
  pub inverse_part : {occurrence : Occurrence} {e : Element} {t : Tree} {before s : State} (i : ℕ)
      → law.ComesTo occurrence e before → element_inverse e ≡ Some t → law.Fits occurrence before s → law.IsWell s
      → law.IsPart (One occurrence e) i s (Whole (inverse_at occurrence i) t)
  pub block_part : {occurrence : Occurrence} {e : Element} {t : Decorator} {x : Tree} {before s : State}
      {v : CallView} → ComesToTag p law occurrence e inclusion_tag t before v → IsBlockAlone p t before v
      → element_body e ≡ Some x → law.Fits occurrence before s → law.IsWell s
      → law.IsPart (One occurrence e) 0 s (Whole (body_at occurrence (as_part 0)) x)
  -- what the name of an inclusion's tag finds, begun in a state n with the indentation that the tag shows in one before
  pub local_part : {occurrence : Occurrence} {e : Element} {t : Decorator} {x : Tree} {before s n : State}
      {v : CallView} {k : Option (List Piece)} (f : Frame) → ComesToTag p law occurrence e inclusion_tag t before v
      → Finds p t before v (is_local x) → law.IsWell s → partial_in s.blocks v.name ≡ Some x → law.Fits occurrence before s
      → law.Fits occurrence before n → IsAhead law occurrence (decorator_body t) k (push_frame f s) n
      → law.IsWell (begun s t k n)
      → law.IsPart (One occurrence e) 1 (begun s t k n) (Whole (included_at occurrence (tree_name x) x) x)
  pub registered_part : {occurrence : Occurrence} {e : Element} {t : Decorator} {x : Tree} {before s n : State}
      {v : CallView} {k : Option (List Piece)} (f : Frame) → ComesToTag p law occurrence e inclusion_tag t before v
      → Finds p t before v (is_registered x) → law.Fits occurrence before s → law.Fits occurrence before n
      → IsAhead law occurrence (decorator_body t) k (push_frame f s) n → law.IsWell (begun s t k n)
      → law.IsPart (One occurrence e) 1 (begun s t k n) (Whole (included_at occurrence (Some v.name) x) x)
  pub own_block_part : {occurrence : Occurrence} {e : Element} {t : Decorator} {x : Tree} {before s n : State}
      {v : CallView} {k : Option (List Piece)} → ComesToTag p law occurrence e inclusion_tag t before v
      → Finds p t before v (is_own_block x) → element_body e ≡ Some x → law.Fits occurrence before s → law.Fits occurrence before n
      → law.IsWell (begun s t k n) → law.IsPart (One occurrence e) 0 (begun s t k n) (Whole (body_at occurrence (as_part 0)) x)
  -- parts that are over: those of an element, an element, and those of a tree
  pub body_next : {occurrence : Occurrence} {e : Element} {c : Call} {t : Tree} {before s z : State} {time : Time}
      → law.ComesTo occurrence e before → element_call e ≡ Some c → element_body e ≡ Some t
      → law.IsAfter (Whole (body_at occurrence time) t) s z → law.IsNext s z
  pub inverse_next : {occurrence : Occurrence} {e : Element} {t : Tree} {before s z : State} {i : ℕ}
      → law.ComesTo occurrence e before → element_inverse e ≡ Some t → law.IsAfter (Whole (inverse_at occurrence i) t) s z
      → law.IsNext s z
  pub ahead_next : {occurrence : Occurrence} {e : Element} {t : Decorator} {x : Tree} {before s z : State} {v : CallView}
      → ComesToTag p law occurrence e inclusion_tag t before v → element_body e ≡ Some x
      → law.IsAfter (Whole (body_at occurrence (as_part 0)) x) s z → law.IsNext s z
  pub element_after : {occurrence : Occurrence} {e : Element} {s z : State} → law.ComesTo occurrence e s
      → element_decorator e ≡ None → law.IsNext s z → law.IsAfter (One occurrence e) s z
  pub decorator_after : {occurrence : Occurrence} {e : Element} {t : Decorator} {s : State} {v : CallView} {all : List Action}
      → ComesToTag p law occurrence e element_decorator t s v → Acts p t s v all
      → law.IsNext s (after_actions (decorator_body t) all s)
      → law.IsAfter (One occurrence e) s (after_actions (decorator_body t) all s)
  pub amid_first : {at : TreeOccurrence} {n : Option Text} {es : Elements} {positions : List Position} {s : State}
      → law.Begins (Whole at (tree n es positions)) s
      → law.IsAmid (Whole at (tree n es positions)) 0 s (record s { current = n })
  pub amid_next : {at : TreeOccurrence} {n : Option Text} {es : Elements} {positions : List Position} {e : Element}
      {s z y : State} (i : ℕ) → law.IsAmid (Whole at (tree n es positions)) i s z → nth es i ≡ Some e
      → law.IsAfter (One (element_in at i (slice_get positions i)) e) z y
      → law.IsAmid (Whole at (tree n es positions)) (i + 1) s y
  pub amid_last : {at : TreeOccurrence} {n : Option Text} {es : Elements} {positions : List Position} {s z : State} (i : ℕ)
      → law.IsAmid (Whole at (tree n es positions)) i s z → nth es i ≡ None
      → law.IsAfter (Whole at (tree n es positions)) s z
  -- why an element fails
  pub fails : {occurrence : Occurrence} {e : Element} {s : State} {r : Reason} → law.ComesTo occurrence e s
      → FailsItself p e s r → law.MayFail r
  -- what is written
  pub text_written : {occurrence : Occurrence} {t : Text} {s : State} → law.ComesTo occurrence (raw_string t) s → law.Fits occurrence s s
      → law.IsWell s → law.MayWrite (put (of_text occurrence) s.indent t s.line).0
  pub value_written : {occurrence : Occurrence} {e : Element} {block : Bool} {c : Call} {before s : State} {v : CallView}
      {found : Found} (t : Text) → ComesToCall p law occurrence e block c before v → WritesValue p block c before v found
      → law.Fits occurrence before s → s.escapes ≡ true → Shows p s true found t → law.IsWell s
      → law.MayWrite (put (of_value occurrence found) s.indent t s.line).0
  pub raw_written : {occurrence : Occurrence} {e : Element} {block : Bool} {c : Call} {before s : State} {v : CallView} {found : Found}
      → ComesToCall p law occurrence e block c before v → WritesValue p block c before v found → law.Fits occurrence before s
      → s.escapes ≡ false → law.IsWell s
      → law.MayWrite (put (of_raw occurrence found) s.indent (rendered_if_any (present_in found)) s.line).0
  pub boolean_text_written : {occurrence : Occurrence} {e : Element} {c : Call} {s : State} {v : CallView} (b : Bool)
      → ComesToCall p law occurrence e false c s v → Chooses p false c s v (the_boolean b)
      → law.MayWrite (record { origin = of_boolean_text occurrence b; text = boolean_text b } ∷ [])
  pub step_written : {occurrence : Occurrence} {e : Element} {block : Bool} {c : Call} {s : State} {v : CallView} {all : List Step}
      (i : ℕ) (t : Text) → ComesToCall p law occurrence e block c s v → Chooses p block c s v (the_steps all)
      → slice_get all i ≡ Some (writes t) → law.MayWrite (pieces_of (of_step occurrence i) t)
