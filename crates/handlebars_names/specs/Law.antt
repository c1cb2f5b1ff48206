-- What follows where names are known: for what a rendering may still fail.
use Rattle.std.specs.Prelude.{◌≡◌, ℕ, Bool, true, List, Option, None, Some, slice_get}
use Rattle.handlebars_base.specs.Answers.{gives, fails}
use Rattle.handlebars_base.specs.Bytes.{Text}
use Rattle.handlebars_base.specs.Reasons.{Reason, missing_variable, param_not_found_for_index, param_not_found_for_name, invalid_json_index, invalid_logging_level, inclusion_limit, Refusal}
use Rattle.handlebars_template.specs.Tree.{Tree}
use Rattle.handlebars_scope.specs.Scopes.{Frame}
use Rattle.handlebars_helpers.specs.UserHelper.{HelperQuestion, Step, renders_body_in}
use Rattle.handlebars_semantics.specs.Pieces.{Piece}
use Rattle.handlebars_semantics.specs.Runs.{Outcome, Ended, Failed, WriteFailed, NoMemory, Means}
use Rattle.handlebars_semantics.specs.State.{Parts, Setting, first_state}
use Rattle.handlebars_names.specs.Check.{tree_findings, AreFine}
use Rattle.handlebars_names.specs.Names.{Names, AreNames}
use Rattle.handlebars_names.specs.Scopes.{Scope, first_scope, covers, Entry, scope_at}

-- Why a rendering may fail though all names are known: the inclusion limit is reached; a name that isn't an index leads into an array; in
-- strict mode a value or a parameter is missing; the level of `log` is none; or a user-defined helper or escape function fails.
pub data IsStillPossible (p : Parts) : Reason → Type 0 where
  for_limit : IsStillPossible p (inclusion_limit p.limit)
  for_index : {n : Text} → IsStillPossible p (invalid_json_index n)
  for_variable : {n : Option Text} → p.strict ≡ true → IsStillPossible p (missing_variable n)
  for_parameter : {helper : Text} {i : ℕ} → p.strict ≡ true → IsStillPossible p (param_not_found_for_index helper i)
  for_named_parameter : {helper n : Text} → p.strict ≡ true → IsStillPossible p (param_not_found_for_name helper n)
  for_level : {n : Text} → IsStillPossible p (invalid_logging_level n)
  for_steps : (called : Text) (q : HelperQuestion) (r : Refusal) → (p.user called).has_steps q (fails r)
      → IsStillPossible p r.reason
  for_offer : (called : Text) (q : HelperQuestion) (r : Refusal) → (p.user called).has_offer q (fails r)
      → IsStillPossible p r.reason
  for_escape : (text : Text) (r : Refusal) → p.user_escape text (fails r) → IsStillPossible p r.reason

-- The run ends, or stops at a write error or when memory runs out, or fails for one of these reasons.
abbrev pub FailsOnlySo : Parts → Outcome → Type 0
FailsOnlySo p (Ended s) = Unit {0}
FailsOnlySo p (Failed r) = IsStillPossible p r.reason
FailsOnlySo p (WriteFailed f) = Unit {0}
FailsOnlySo p NoMemory = Unit {0}

-- No user-defined helper renders its body in a scope frame that has inline partials of its own.
abbrev pub PassNoPartials : Parts → Type 0
PassNoPartials p =
    (called : Text) (q : HelperQuestion) (steps : List Step) → (p.user called).has_steps q (gives (Some steps))
    → (i : ℕ) (f : Frame) → slice_get steps i ≡ Some (renders_body_in f) → (n : Text) → f.partial n ≡ None

-- In each of these trees that may be included by its name nothing is wrong, by what the table has of the name.
abbrev pub AreFineUnder : Names → List Entry → (Text → Option Tree) → Type 0
AreFineUnder names table trees = (n : Text) (t : Tree) → trees n ≡ Some t → (h : Scope) → scope_at table n ≡ Some h
    → (at : Option Text) × AreFine table (tree_findings names table at t h)

-- Where the names are known of a page and of all templates that a table has, each rendering of the page, whatever the data,
-- fails only so.
abbrev pub KnownNamesFailOnlySo : Setting → Type 0
KnownNamesFailOnlySo p =
    (names : Names) → AreNames p.parts names → PassNoPartials p.parts → (table : List Entry) → AreFineUnder names table p.parts.template
    → (at : Option Text) (t : Tree) (h : Scope) → covers h first_scope ≡ true → AreFine table (tree_findings names table at t h)
    → (recursive : Bool) (ps : List Piece) (o : Outcome) → Means p t (first_state recursive) ps o → FailsOnlySo p.parts o
