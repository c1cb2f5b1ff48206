-- The origin of each piece of a run.
use Rattle.std.specs.Prelude.{◌≡◌, ℕ, slice_get, zero, suc, Bool, true, false, not, ◌&&◌, ◌||◌, List, [], ◌++◌, Option, None, Some, option_map, unwrap_or}
use Rattle.std.specs.List.{AllByRecursion, Contains}
use Rattle.std.specs.Str.{bytes_eq}
use Rattle.serde_json.specs.Data.{Data}
use Rattle.handlebars_base.specs.Answers.{gives}
use Rattle.handlebars_base.specs.Bytes.{Text}
use Rattle.handlebars_base.specs.Optional.{◌>>=◌, with_or}
use Rattle.handlebars_base.specs.Scoped.{Found, walked, value, missing, present_in}
use Rattle.handlebars_base.specs.Values.{boolean_text}
use Rattle.handlebars_template.specs.Position.{Position}
use Rattle.handlebars_template.specs.Tree.{Tree, tree, tree_name, tree_elements, Elements, no_elements, element, Element, raw_string, html_expression, escaped_expression, helper_block, decorator_expression, decorator_block, partial_expression, partial_block, Call, call_name, call_args, call_body, call_inverse, is_value, Decorator, decorator_name, decorator_args, decorator_body, decorator_marks, Body, no_body, body}
use Rattle.handlebars_base.specs.Outputs.{IsPrefix}
use Rattle.handlebars_helpers.specs.CallView.{CallView}
use Rattle.handlebars_helpers.specs.Callee.{Target}
use Rattle.handlebars_helpers.specs.Choice.{Choice, the_value, the_boolean, the_steps}
use Rattle.handlebars_helpers.specs.Decoration.{DecoratorKind, Action, sets_partial}
use Rattle.handlebars_helpers.specs.UserHelper.{Step, writes, renders_body_in}
use Rattle.handlebars_scope.specs.Scopes.{Frame}
use Rattle.handlebars_semantics.specs.Execute.{view_with_bodies}
use Rattle.handlebars_semantics.specs.Inclusion.{Partial, is_local, is_registered, is_own_block, is_current, partial_for}
use Rattle.handlebars_semantics.specs.Including.{partial_block_name}
use Rattle.handlebars_semantics.specs.Means.{shown_tag}
use Rattle.handlebars_semantics.specs.Pieces.{Origin, of_text, of_value, of_raw, of_boolean_text, of_step, of_indent, Piece}
use Rattle.handlebars_semantics.specs.Questions.{value_of, view_of, helper_of, called_as, hook_for, choice_of, escape_of, decorator_of, actions_of, IsAnswered}
use Rattle.handlebars_semantics.specs.Occurrences.{as_part, Time, TreeOccurrence, first_tree, body_at, inverse_at, included_at, Occurrence, element_in, occurrence_position}
use Rattle.handlebars_semantics.specs.State.{Setting, State}
use Rattle.handlebars_semantics.specs.Visits.{Visit}
use Rattle.handlebars_semantics.specs.Writing.{rendered_if_any}

-- ---- the element at an occurrence

abbrev pub nth : Elements → ℕ → Option Element
nth no_elements i = None
nth (element e es) zero = Some e
nth (element e es) (suc i) = nth es i

abbrev pub nth_in : Option Tree → ℕ → Option Element
nth_in None i = None
nth_in (Some t) i = nth (tree_elements t) i

abbrev pub body_tree : Body → Option Tree
body_tree no_body = None
body_tree (body t) = Some t

-- the call that an element is, the tag of a decorator, and the tag of an inclusion
abbrev pub element_call : Element → Option Call
element_call (html_expression c) = Some c
element_call (escaped_expression c) = Some c
element_call (helper_block c) = Some c
element_call e = None

abbrev pub element_decorator : Element → Option Decorator
element_decorator (decorator_expression t) = Some t
element_decorator (decorator_block t) = Some t
element_decorator e = None

abbrev pub inclusion_tag : Element → Option Decorator
inclusion_tag (partial_expression t) = Some t
inclusion_tag (partial_block t) = Some t
inclusion_tag e = None

abbrev pub is_block : Element → Bool
is_block (helper_block c) = true
is_block e = false

abbrev pub is_html : Element → Bool
is_html (html_expression c) = true
is_html e = false

-- The body and the inverse that an element renders: those of a call, and the block of an inclusion. A decorator's tag renders
-- none.
abbrev pub element_body : Element → Option Tree
element_body e =
    with_or (element_call e) (λ c. body_tree (call_body c)) (inclusion_tag e >>= (λ t. body_tree (decorator_body t)))

abbrev pub element_inverse : Element → Option Tree
element_inverse e = element_call e >>= (λ c. body_tree (call_inverse c))

-- the occurrence of the tree that an element is in
abbrev pub tree_occurrence_of : Occurrence → TreeOccurrence
tree_occurrence_of (element_in at i position) = at

-- the tree and the element at their occurrences, in a run that begins with the tree u
abbrev mutual
  pub tree_at : Tree → TreeOccurrence → Option Tree
  tree_at u first_tree = Some u
  tree_at u (body_at occurrence time) = element_at u occurrence >>= element_body
  tree_at u (inverse_at occurrence i) = element_at u occurrence >>= element_inverse
  tree_at u (included_at occurrence name t) = Some t

  pub element_at : Tree → Occurrence → Option Element
  element_at u (element_in at i position) = nth_in (tree_at u at) i

-- the position of an element in its source, as its tree has it
abbrev pub tree_positions : Tree → List Position
tree_positions (tree n es positions) = positions

abbrev pub nth_position : Option Tree → ℕ → Option Position
nth_position None i = None
nth_position (Some t) i = slice_get (tree_positions t) i

abbrev pub position_in_tree : Tree → Occurrence → Option Position
position_in_tree u (element_in at i position) = nth_position (tree_at u at) i

-- The call of an element, which may write a value, escaped or raw, or a boolean text; and whether the element is a block.
abbrev pub shown_call : Element → Option (Bool × Call)
shown_call e = option_map (λ c. (is_block e, c)) (element_call e)

-- The occurrence is that of an html expression, or is within the body of one (which only a hand-built template has): escaping
-- is off there.
abbrev mutual
  pub is_raw_tree : Tree → TreeOccurrence → Bool
  is_raw_tree u first_tree = false
  is_raw_tree u (body_at occurrence time) = is_raw_occurrence u occurrence
  is_raw_tree u (inverse_at occurrence i) = is_raw_occurrence u occurrence
  is_raw_tree u (included_at occurrence name t) = is_raw_occurrence u occurrence

  pub is_raw_occurrence : Tree → Occurrence → Bool
  is_raw_occurrence u (element_in at i position) = with_or (nth_in (tree_at u at) i) is_html false || is_raw_tree u at

-- ---- origins

-- a text is a part of another
pub record IsWithin (t all : Text) : Type 0 where
  pub left : Text
  pub right : Text
  pub is : all ≡ left ++ (t ++ right)

-- a visit of the occurrence in this state, except for whether escaping is on, on which no value depends
pub record IsReached (vs : List Visit) (occurrence : Occurrence) (s : State) : Type 0 where
  pub first : State
  pub comes : Contains vs (record { occurrence = occurrence; state = first })
  pub is : s ≡ record first { escapes = s.escapes }

-- a visit of the occurrence, in some state
pub record IsVisited (vs : List Visit) (occurrence : Occurrence) : Type 0 where
  pub state : State
  pub comes : Contains vs (record { occurrence = occurrence; state = state })

-- a part of the text element at the occurrence, which the run visits
pub record IsOfText (u : Tree) (vs : List Visit) (occurrence : Occurrence) (t : Text) : Type 0 where
  pub all : Text
  pub occurs : element_at u occurrence ≡ Some (raw_string all)
  pub state : State
  pub reached : IsReached vs occurrence state
  pub is : IsWithin t all

-- an expression without parameters and hash arguments
abbrev pub is_lone : Bool → Call → Bool
is_lone block c = not block && is_value c

-- A lone expression, whose name has no helper, has this value in a state.
pub record IsValue (p : Setting) (block : Bool) (c : Call) (s : State) (v : CallView) (found : Found) : Type 0 where
  pub lone : is_lone block c ≡ true
  pub no_helper : IsAnswered p s (helper_of v.name) (gives None)
  pub has : IsAnswered p s (value_of (call_name c)) (gives found)

-- What a call of this view calls, and the view that is passed to it: for a lone expression the helper of its name or, if the
-- value is missing, the hook; for any other call the helper of its name, or else the hook; and for a section the helper that
-- its value selects.
pub data Calls (p : Setting) (block : Bool) (c : Call) (s : State) (v : CallView) : Target → CallView → Type 0 where
  by_name : {target : Target} → is_lone block c ≡ true → IsAnswered p s (helper_of v.name) (gives (Some target))
      → Calls p block c s v target v
  as_called : {target : Target} {shown : CallView} → is_lone block c ≡ false
      → IsAnswered p s (called_as block c v) (gives (target, shown)) → Calls p block c s v target shown
  by_hook : {target : Target} → IsValue p block c s v missing
      → IsAnswered p s (hook_for (call_name c)) (gives (Some target)) → Calls p block c s v target v

-- A call of this view, of a block or an expression, calls a helper in a state, which chooses this for the view that is passed
-- to it.
pub record Chooses (p : Setting) (block : Bool) (c : Call) (s : State) (v : CallView) (choice : Choice) : Type 0 where
  pub target : Target
  pub shown : CallView
  pub calls : Calls p block c s v target shown
  pub chooses : IsAnswered p s (choice_of target (view_with_bodies block c shown)) (gives choice)

abbrev pub IsPresent : Found → Type 0
IsPresent (walked d path) = Unit {0}
IsPresent (value d) = Unit {0}
IsPresent missing = ⊥

-- A call of this view writes this value in a state: its own, as a lone expression, if it is not missing; or the one that its
-- helper chooses.
pub data WritesValue (p : Setting) (block : Bool) (c : Call) (s : State) (v : CallView) : Found → Type 0 where
  of_itself : {found : Found} → IsPresent found → IsValue p block c s v found → WritesValue p block c s v found
  of_helper : {d : Data} → Chooses p block c s v (the_value d) → WritesValue p block c s v (value d)

-- the call of the element at the occurrence, in a state in which the run visits it
pub record IsCalled (p : Setting) (u : Tree) (vs : List Visit) (occurrence : Occurrence) (block : Bool) (c : Call) (s : State)
    (v : CallView) : Type 0 where
  pub occurs : (element_at u occurrence >>= shown_call) ≡ Some (block, c)
  pub reached : IsReached vs occurrence s
  pub viewed : IsAnswered p s (view_of (call_name c) (call_args c)) (gives v)

-- The text that is written of a value in a state, escaped or not: what the escape answers for its text, or the text itself.
abbrev pub Shows : Setting → State → Bool → Found → Text → Type 0
Shows p s true found t = IsAnswered p s (escape_of (rendered_if_any (present_in found))) (gives t)
Shows p s false found t = t ≡ rendered_if_any (present_in found)

-- a part of the value that the call at the occurrence writes in a state in which the run visits it, rendered, and escaped or
-- not
pub record IsOfShown (p : Setting) (u : Tree) (vs : List Visit) (escapes : Bool) (occurrence : Occurrence) (found : Found) (t : Text)
    : Type 0 where
  pub block : Bool
  pub helper : Call
  pub state : State
  pub view : CallView
  pub called : IsCalled p u vs occurrence block helper state view
  pub is_raw : is_raw_occurrence u occurrence ≡ not escapes
  pub writes : WritesValue p block helper state view found
  pub all : Text
  pub shows : Shows p state escapes found all
  pub is : IsWithin t all

-- the text of the boolean helper of the expression at the occurrence, in a state in which the run visits it; or a prefix of
-- it, if the run stopped within it
pub record IsOfBooleanText (p : Setting) (u : Tree) (vs : List Visit) (occurrence : Occurrence) (b : Bool) (t : Text) : Type 0 where
  pub helper : Call
  pub state : State
  pub view : CallView
  pub called : IsCalled p u vs occurrence false helper state view
  pub says : Chooses p false helper state view (the_boolean b)
  pub is : IsPrefix t (boolean_text b)

-- the text of a step that the helper of the call at the occurrence answers in a state in which the run visits it; or a prefix
-- of it, if the run stopped within it
pub record IsOfStep (p : Setting) (u : Tree) (vs : List Visit) (occurrence : Occurrence) (i : ℕ) (t : Text) : Type 0 where
  pub block : Bool
  pub helper : Call
  pub state : State
  pub view : CallView
  pub called : IsCalled p u vs occurrence block helper state view
  pub steps : List Step
  pub answers : Chooses p block helper state view (the_steps steps)
  pub all : Text
  pub step : slice_get steps i ≡ Some (writes all)
  pub is : IsPrefix t all

-- the tag of the decorator or of the inclusion at the occurrence, as `tag_of` reads it, in a state in which the run visits it
pub record IsTagged (p : Setting) (u : Tree) (vs : List Visit) (occurrence : Occurrence) (tag_of : Element → Option Decorator)
    (tag : Decorator) (s : State) (v : CallView) : Type 0 where
  pub occurs : (element_at u occurrence >>= tag_of) ≡ Some tag
  pub reached : IsReached vs occurrence s
  pub viewed : IsAnswered p s (view_of (decorator_name tag) (decorator_args tag)) (gives v)

-- What an inclusion by a tag of this view finds by its name in a state. The name is not that of the template whose elements
-- are being rendered, which fails, nor that of a captured text, which is written.
pub record Finds (p : Setting) (tag : Decorator) (s : State) (v : CallView) (found : Partial) : Type 0 where
  pub other : is_current v.name s.current ≡ false
  pub no_captured : bytes_eq partial_block_name v.name ≡ false
  pub finds : partial_for p.parts s v.name (decorator_body tag) ≡ found

-- the indentation of a tag, or none
abbrev pub own_indent : Decorator → Text
own_indent tag = unwrap_or (decorator_marks tag).indent []

-- The block of an inclusion's tag is rendered outside of the inclusion by that tag: before the tree that its name finds, or
-- instead of a captured text, if its name is that of the captured text.
pub data IsBlockAlone (p : Setting) (tag : Decorator) (s : State) (v : CallView) : Type 0 where
  ahead_of_local : {t : Tree} → Finds p tag s v (is_local t) → IsBlockAlone p tag s v
  ahead_of_registered : {t : Tree} → Finds p tag s v (is_registered t) → IsBlockAlone p tag s v
  instead_of_captured : bytes_eq partial_block_name v.name ≡ true → IsBlockAlone p tag s v

-- The indentations of the inclusions around a tree of a run, joined, outermost first. The first tree has none around it. The
-- body and the inverse of a call have those around the call, and so has the block of an inclusion's tag that is rendered
-- alone. A tree that an inclusion includes also has the indentation of that inclusion; the tree is what its name finds, or
-- the tag's own block.
pub data AreIndents (p : Setting) (u : Tree) (vs : List Visit) : TreeOccurrence → Text → Type 0 where
  around_first : AreIndents p u vs first_tree []
  around_body : {occurrence : Occurrence} {time : Time} {c : Call} {t : Text} → AreIndents p u vs (tree_occurrence_of occurrence) t
      → (element_at u occurrence >>= element_call) ≡ Some c → AreIndents p u vs (body_at occurrence time) t
  around_inverse : {occurrence : Occurrence} {j : ℕ} {t : Text} → AreIndents p u vs (tree_occurrence_of occurrence) t
      → AreIndents p u vs (inverse_at occurrence j) t
  around_block : {occurrence : Occurrence} {tag : Decorator} {s : State} {v : CallView} {t : Text}
      → AreIndents p u vs (tree_occurrence_of occurrence) t → IsTagged p u vs occurrence inclusion_tag tag s v → IsBlockAlone p tag s v
      → AreIndents p u vs (body_at occurrence (as_part 0)) t
  around_included : {occurrence : Occurrence} {name : Option Text} {x : Tree} {tag : Decorator} {t : Text}
      → AreIndents p u vs (tree_occurrence_of occurrence) t → (element_at u occurrence >>= inclusion_tag) ≡ Some tag
      → AreIndents p u vs (included_at occurrence name x) (t ++ own_indent tag)
  around_own_block : {occurrence : Occurrence} {x : Tree} {tag : Decorator} {s : State} {v : CallView} {t : Text}
      → AreIndents p u vs (tree_occurrence_of occurrence) t → IsTagged p u vs occurrence inclusion_tag tag s v
      → Finds p tag s v (is_own_block x) → AreIndents p u vs (body_at occurrence (as_part 0)) (t ++ own_indent tag)

-- Text or a value that is written at the occurrence, by its element.
pub data IsWriter (p : Setting) (u : Tree) (vs : List Visit) (occurrence : Occurrence) : Type 0 where
  writes_text : {t : Text} → IsOfText u vs occurrence t → IsWriter p u vs occurrence
  writes_shown : {escapes : Bool} {found : Found} {t : Text} → IsOfShown p u vs escapes occurrence found t
      → IsWriter p u vs occurrence

-- the indentations around the element at the occurrence, which writes text or a value there; or a prefix of them, if the run
-- stopped within them
pub record IsOfIndent (p : Setting) (u : Tree) (vs : List Visit) (occurrence : Occurrence) (t : Text) : Type 0 where
  pub writer : IsWriter p u vs occurrence
  pub all : Text
  pub indents : AreIndents p u vs (tree_occurrence_of occurrence) all
  pub is : IsPrefix t all

-- The origin of a text, in a run over the tree u with these visits.
abbrev pub ComesFrom : Setting → Tree → List Visit → Origin → Text → Type 0
ComesFrom p u vs (of_text occurrence) t = IsOfText u vs occurrence t
ComesFrom p u vs (of_value occurrence found) t = IsOfShown p u vs true occurrence found t
ComesFrom p u vs (of_raw occurrence found) t = IsOfShown p u vs false occurrence found t
ComesFrom p u vs (of_boolean_text occurrence b) t = IsOfBooleanText p u vs occurrence b t
ComesFrom p u vs (of_step occurrence i) t = IsOfStep p u vs occurrence i t
ComesFrom p u vs (of_indent occurrence) t = IsOfIndent p u vs occurrence t

abbrev pub HasOrigin : Setting → Tree → List Visit → Piece → Type 0
HasOrigin p u vs piece = ComesFrom p u vs piece.origin piece.text

abbrev pub HaveOrigins : Setting → Tree → List Visit → List Piece → Type 0
HaveOrigins p u vs ps = AllByRecursion (HasOrigin p u vs) ps

-- ---- the trees of a run

-- a scope frame that the user-defined helper of the call at the occurrence passes to its body, in a state in which the run
-- visits it
pub record IsPassedIn (p : Setting) (u : Tree) (vs : List Visit) (f : Frame) : Type 0 where
  pub occurrence : Occurrence
  pub block : Bool
  pub helper : Call
  pub state : State
  pub view : CallView
  pub called : IsCalled p u vs occurrence block helper state view
  pub steps : List Step
  pub answers : Chooses p block helper state view (the_steps steps)
  pub index : ℕ
  pub step : slice_get steps index ≡ Some (renders_body_in f)

-- The decorator of a tag of this view has an action, in a state, that sets this partial under this name: the tag's body.
pub record SetsPartial (p : Setting) (tag : Decorator) (s : State) (v : CallView) (n : Text) (t : Tree) : Type 0 where
  pub kind : DecoratorKind
  pub named : IsAnswered p s (decorator_of v.name) (gives kind)
  pub actions : List Action
  pub answers : IsAnswered p s (actions_of kind (shown_tag s.indent tag v)) (gives actions)
  pub sets : Contains actions (sets_partial n)
  pub is : decorator_body tag ≡ body t

mutual
  -- A tree of a run that begins with the tree u in these scope frames: u itself; a body or an inverse of an element that the
  -- run visits in a tree of the run; or the tree that the name of an inclusion's tag finds, if the run visits the tag in a
  -- tree of the run: a local partial of the run, under its own name, or a registered tree, under that name.
  pub data IsTreeOfRun (p : Setting) (u : Tree) (blocks : List Frame) (vs : List Visit) : TreeOccurrence → Type 0 where
    is_first : IsTreeOfRun p u blocks vs first_tree
    is_body : {occurrence : Occurrence} {time : Time} {t : Tree} → IsTreeOfRun p u blocks vs (tree_occurrence_of occurrence) → IsVisited vs occurrence
        → (element_at u occurrence >>= element_body) ≡ Some t → IsTreeOfRun p u blocks vs (body_at occurrence time)
    is_inverse : {occurrence : Occurrence} {j : ℕ} {t : Tree} → IsTreeOfRun p u blocks vs (tree_occurrence_of occurrence) → IsVisited vs occurrence
        → (element_at u occurrence >>= element_inverse) ≡ Some t → IsTreeOfRun p u blocks vs (inverse_at occurrence j)
    is_local_of : {occurrence : Occurrence} {t : Tree} {tag : Decorator} {s : State} {v : CallView}
        → IsTreeOfRun p u blocks vs (tree_occurrence_of occurrence) → IsTagged p u vs occurrence inclusion_tag tag s v
        → Finds p tag s v (is_local t) → IsLocalOfRun p u blocks vs v.name t
        → IsTreeOfRun p u blocks vs (included_at occurrence (tree_name t) t)
    is_stored : {occurrence : Occurrence} {t : Tree} {tag : Decorator} {s : State} {v : CallView}
        → IsTreeOfRun p u blocks vs (tree_occurrence_of occurrence) → IsTagged p u vs occurrence inclusion_tag tag s v
        → Finds p tag s v (is_registered t) → IsTreeOfRun p u blocks vs (included_at occurrence (Some v.name) t)

  -- A local partial of a run, by its name: one that the decorator of a tag sets, if the run visits the tag in a tree of the
  -- run; or one that was in a scope frame before, with which the run began or which a user-defined helper passed.
  pub data IsLocalOfRun (p : Setting) (u : Tree) (blocks : List Frame) (vs : List Visit) : Text → Tree → Type 0 where
    set_by : {occurrence : Occurrence} {n : Text} {t : Tree} {tag : Decorator} {s : State} {v : CallView}
        → IsTreeOfRun p u blocks vs (tree_occurrence_of occurrence) → IsTagged p u vs occurrence element_decorator tag s v
        → SetsPartial p tag s v n t → IsLocalOfRun p u blocks vs n t
    in_block_before : {n : Text} {t : Tree} (f : Frame) → Contains blocks f → f.partial n ≡ Some t → IsLocalOfRun p u blocks vs n t
    passed_in : {n : Text} {t : Tree} (f : Frame) → IsPassedIn p u vs f → f.partial n ≡ Some t
        → IsLocalOfRun p u blocks vs n t

-- an occurrence in a tree of a run, with the position that the tree has there
abbrev pub IsOccurrenceOfRun : Setting → Tree → List Frame → List Visit → Occurrence → Type 0
IsOccurrenceOfRun p u blocks vs occurrence = IsTreeOfRun p u blocks vs (tree_occurrence_of occurrence) × (occurrence_position occurrence ≡ position_in_tree u occurrence)

-- All visits are in trees of the run.
abbrev pub OccurInTrees : Setting → Tree → List Frame → List Visit → List Visit → Type 0
OccurInTrees p u blocks vs xs = AllByRecursion (λ v. IsOccurrenceOfRun p u blocks vs v.occurrence) xs
