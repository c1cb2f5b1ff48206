-- How steps are executed: the pieces that are written, and the outcome.
use Rattle.std.specs.Prelude.{◌≡◌, ◌<◌, ◌≤◌, Bool, List, [], ◌∷◌, ◌++◌, Option, None, Some}
use Rattle.handlebars_base.specs.Answers.{Answer}
use Rattle.handlebars_base.specs.Bytes.{Text}
use Rattle.handlebars_base.specs.Reasons.{Location, nowhere, Refusal, inclusion_limit}
use Rattle.handlebars_base.specs.RenderRefusals.{name_if_none, position_if_none, plain_refusal}
use Rattle.handlebars_template.specs.Position.{Position}
use Rattle.handlebars_template.specs.Tree.{Tree, tree_name, Body}
use Rattle.handlebars_base.specs.Outputs.{IsPrefix}
use Rattle.handlebars_semantics.specs.Inclusion.{Partial, partial_for}
use Rattle.handlebars_semantics.specs.Pieces.{Piece}
use Rattle.handlebars_semantics.specs.Questions.{Question, Reply, IsAnswered}
use Rattle.handlebars_semantics.specs.Occurrences.{occurrence_position}
use Rattle.handlebars_semantics.specs.State.{Setting, State}
use Rattle.handlebars_semantics.specs.Steps.{Task, One, Whole, Steps, Done, Fail, Write, Get, Set, Ask, Do, Capture, Find, CheckLimit}
use Rattle.handlebars_semantics.specs.Means.{todo, render_tree}

-- A write error: whether a boolean helper's text was being written, and the location, as far as it is known.
pub record WriteError : Type 0 where
  pub at_boolean_text : Bool
  pub location : Location

abbrev pub plain_write_error : Bool → WriteError
plain_write_error at_boolean_text = record { at_boolean_text = at_boolean_text; location = nowhere }

-- A run ends in a state or fails with an error. It may also stop early: at a write error, or when memory runs out.
pub data Outcome : Type 0 where
  Ended : State → Outcome
  Failed : Refusal → Outcome
  WriteFailed : WriteError → Outcome
  NoMemory : Outcome

abbrev pub IsOver : Outcome → Type 0
IsOver (Ended s) = ⊥
IsOver (Failed r) = Unit {0}
IsOver (WriteFailed f) = Unit {0}
IsOver NoMemory = Unit {0}

-- over before its end, in steps whose pieces are captured: no output takes part, and only an output can have a write error
abbrev pub IsOverInMemory : Outcome → Type 0
IsOverInMemory (Ended s) = ⊥
IsOverInMemory (Failed r) = Unit {0}
IsOverInMemory (WriteFailed f) = ⊥
IsOverInMemory NoMemory = Unit {0}

abbrev pub IsStop : Outcome → Type 0
IsStop (Ended s) = ⊥
IsStop (Failed r) = ⊥
IsStop (WriteFailed f) = Unit {0}
IsStop NoMemory = Unit {0}

-- a stop within a write, of a boolean text or not, whose position and template are not known yet
abbrev pub Stops : Bool → Outcome → Type 0
Stops at_boolean_text (Ended s) = ⊥
Stops at_boolean_text (Failed r) = ⊥
Stops at_boolean_text (WriteFailed f) = f ≡ plain_write_error at_boolean_text
Stops at_boolean_text NoMemory = Unit {0}

-- An element gives its position to an error or a write error within it, and a tree gives its name, if they have one and none
-- is known yet.
abbrev pub positioned_at : Option Position → Location → Location
positioned_at None location = location
positioned_at (Some p) location = position_if_none p.line p.column location

abbrev pub named_as : Option Text → Location → Location
named_as None location = location
named_as (Some n) location = name_if_none n location

abbrev pub mark_location : Task → Location → Location
mark_location (One occurrence e) location = positioned_at (occurrence_position occurrence) location
mark_location (Whole at t) location = named_as (tree_name t) location

abbrev pub mark_outcome : Task → Outcome → Outcome
mark_outcome t (Ended s) = Ended s
mark_outcome t (Failed r) = Failed (record r { location = mark_location t r.location })
mark_outcome t (WriteFailed f) = WriteFailed (record f { location = mark_location t f.location })
mark_outcome t NoMemory = NoMemory

-- The first of the pieces; of the last of them perhaps only a prefix.
pub data Prefix : List Piece → List Piece → Type 0 where
  none : {ps : List Piece} → Prefix [] ps
  truncated : {p : Piece} {t : Text} {ps : List Piece}
      → IsPrefix t p.text → Prefix (record p { text = t } ∷ []) (p ∷ ps)
  more : {p : Piece} {qs ps : List Piece} → Prefix qs ps → Prefix (p ∷ qs) (p ∷ ps)

-- Runs p k s ps o: from the state s the steps k write the pieces ps and come to the outcome o.
pub data Runs (p : Setting) : Steps → State → List Piece → Outcome → Type 0 where
  done : {s : State} → Runs p Done s [] (Ended s)
  failed : {s : State} {r : Refusal} → Runs p (Fail r) s [] (Failed r)
  wrote : {s : State} {at_boolean_text : Bool} {xs ps : List Piece} {k : Steps} {o : Outcome}
      → Runs p k s ps o → Runs p (Write at_boolean_text xs k) s (xs ++ ps) o
  got : {s : State} {f : State → Steps} {ps : List Piece} {o : Outcome} → Runs p (f s) s ps o → Runs p (Get f) s ps o
  set : {s next : State} {k : Steps} {ps : List Piece} {o : Outcome} → Runs p k next ps o → Runs p (Set next k) s ps o
  asked : {s : State} {q : Question} {f : Answer (Reply q) → Steps} {ps : List Piece} {o : Outcome} (a : Answer (Reply q))
      → IsAnswered p s q a → Runs p (f a) s ps o → Runs p (Ask q f) s ps o
  -- A task ends, or it is over before its end, and then nothing follows.
  did : {s next : State} {t : Task} {k : Steps} {ps qs : List Piece} {o : Outcome}
      → Runs p (todo t) s ps (Ended next) → Runs p k next qs o → Runs p (Do t k) s (ps ++ qs) o
  did_over : {s : State} {t : Task} {k : Steps} {ps : List Piece} {o : Outcome}
      → Runs p (todo t) s ps o → IsOver o → Runs p (Do t k) s ps (mark_outcome t o)
  -- The captured pieces are passed on, and the run continues from the state after them. A capture that is over before its end
  -- writes nothing, and has no write error.
  did_capture : {s next : State} {m : Steps} {f : List Piece → Steps} {ps qs : List Piece} {o : Outcome}
      → Runs p m s ps (Ended next) → Runs p (f ps) next qs o → Runs p (Capture m f) s qs o
  did_capture_over : {s : State} {m : Steps} {f : List Piece → Steps} {ps : List Piece} {o : Outcome}
      → Runs p m s ps o → IsOverInMemory o → Runs p (Capture m f) s [] o
  -- What is found by a name is passed on.
  looked : {s : State} {n : Text} {b : Body} {f : Partial → Steps} {ps : List Piece} {o : Outcome}
      → Runs p (f (partial_for p.parts s n b)) s ps o → Runs p (Find n b f) s ps o
  -- Below the limit one more inclusion is allowed. At the limit the run fails with `inclusion_limit`.
  below_limit : {s : State} {k : Steps} {ps : List Piece} {o : Outcome}
      → s.inclusions < p.parts.limit → Runs p k s ps o → Runs p (CheckLimit k) s ps o
  at_limit : {s : State} {k : Steps} → p.parts.limit ≤ s.inclusions
      → Runs p (CheckLimit k) s [] (Failed (plain_refusal (inclusion_limit p.parts.limit)))
  -- Memory runs out between two steps.
  stop : {s : State} {k : Steps} → Runs p k s [] NoMemory
  -- A stop within a write that isn't empty.
  cut : {s : State} {at_boolean_text : Bool} {x : Piece} {xs ys : List Piece} {k : Steps} {o : Outcome}
      → Stops at_boolean_text o → Prefix ys (x ∷ xs) → Runs p (Write at_boolean_text (x ∷ xs) k) s ys o

-- the meaning of a tree
abbrev pub Means : Setting → Tree → State → List Piece → Outcome → Type 0
Means p t s ps o = Runs p (render_tree t) s ps o
