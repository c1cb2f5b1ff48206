-- What calls guarantee, and what is said of the states of a run.
use Rattle.std.specs.Prelude.{◌≡◌, ◌≢◌, Option, List, [], option_map, unwrap_or, Result, MatchResult, map, Bool, true, false}
use Rattle.handlebars_base.specs.Answers.{gives, fails}
use Rattle.handlebars_base.specs.Bytes.{Text}
use Rattle.handlebars_base.specs.Reasons.{Refusal, out_of_memory}
use Rattle.handlebars_base.specs.RenderRefusals.{reason_in, refusal_of}
use Rattle.handlebars_base.specs.declared.error.render_error.RenderError.{RenderError}
use Rattle.handlebars_scope.specs.Indentation.{written_in}
use Rattle.handlebars_scope.specs.LineState.{LineState, line_after_text}
use Rattle.handlebars_semantics.specs.Pieces.{Piece, join}
use Rattle.handlebars_semantics.specs.Emitted.{emitted}
use Rattle.handlebars_helpers.specs.CallView.{CallView}
use Rattle.handlebars_semantics.specs.State.{Setting, State}
use Rattle.handlebars_semantics.specs.Steps.{Prog}
use Rattle.handlebars_semantics.specs.Asks.{Asks}
use Rattle.handlebars_semantics.specs.Runs.{Outcome, Failed, Runs}
use Rattle.handlebars_expand.specs.PiecesView.{captured_emitted, plain_text}
use Rattle.handlebars_expand.specs.declared.ahead.Captured.{Captured}

-- a name alone, with no parameters
abbrev pub name_alone : Text → CallView
name_alone name = record { name = name; params = []; hash = [] }

-- These are the pieces of the newest capture: the code has their text, or each of them if pieces are asked for.
abbrev pub AreCaptured : Bool → Option (List Piece) → Option Captured → Type 0
AreCaptured false ps k = option_map join ps ≡ option_map plain_text k
AreCaptured true ps k = option_map (map emitted) ps ≡ option_map captured_emitted k

-- ---- what calls guarantee

-- What a call that asks something guarantees: its value is the answer, or it fails as the answer does, or memory runs out.
abbrev pub Yields : {T A : Type 0} → Asks A → (T → A) → Result T RenderError → Type 0
Yields m seen r =
    MatchResult r (λ x. m (gives (seen x))) (λ e. reason_in e ≢ out_of_memory → m (fails (refusal_of e)))

-- ---- programs that have a value

-- This is the program's value: from the same state, and with nothing written, a run of what comes next for it is a run of the
-- whole.
abbrev pub GivesValue : {A : Type 0} → Setting → Prog A → State → A → Type 0
GivesValue p m s a = (k : _) (ps : List Piece) (o : Outcome) → Runs p (k a) s ps o → Runs p (m k) s ps o

-- The program has no value. It fails with this refusal, whatever comes next.
abbrev pub ValueFails : {A : Type 0} → Setting → Prog A → State → Refusal → Type 0
ValueFails p m s r = (k : _) → Runs p (m k) s [] (Failed r)

-- ---- states

-- the state with another line
abbrev pub with_line : LineState → State → State
with_line line s = record s { line = line }

-- the state with another name as the current one, or none
abbrev pub with_current : Option Text → State → State
with_current name s = record s { current = name }

-- the state after a text
abbrev pub state_after : Text → State → State
state_after t s = record s { line = line_after_text t s.line }

-- what is written for a text in a state
abbrev pub written_at : State → Text → Text
written_at s t = written_in (unwrap_or s.indent []) s.line t
