-- What the code's values represent, and what its calls guarantee about a run.
use Rattle.std.specs.Prelude.{◌≡◌, ◌≢◌, ℕ, Option, None, Some, ◌+◌, ◌^◌, ◌<◌, List, ◌++◌, Result, Ok, Err, map, Bool, true, false}
use Rattle.std.specs.declared.io.Error.{Error}
use Rattle.std.specs.declared.io.ErrorKind.{ErrorKind}
use Rattle.std.specs.declared.io.ErrorKind.TheVariants.{OutOfMemory}
use Rattle.std.specs.IoError.{error_kind}
use Rattle.handlebars_base.specs.Bytes.{Text}
use Rattle.handlebars_base.specs.Reasons.{Reason, Refusal, other, out_of_memory}
use Rattle.handlebars_base.specs.RenderRefusals.{reason_in, location_of, refusal_of, cause_of}
use Rattle.handlebars_base.specs.declared.error.render_error.RenderError.{RenderError}
use Rattle.handlebars_base.specs.declared.error.render_error.RenderErrorReason.TheVariants.{IOError}
use Rattle.handlebars_base.specs.Outputs.{Held, write_reason}
use Rattle.handlebars_semantics.specs.Pieces.{Piece, join}
use Rattle.handlebars_semantics.specs.Emitted.{Emitted, emitted}
use Rattle.handlebars_semantics.specs.State.{Setting, State}
use Rattle.handlebars_semantics.specs.Steps.{Steps, Prog}
use Rattle.handlebars_semantics.specs.Runs.{WriteError, Outcome, Ended, Failed, WriteFailed, NoMemory, Runs}
use Rattle.handlebars_expand.specs.PiecesView.{ahead_plain, ahead_emitted, texts}
use Rattle.handlebars_expand.specs.Received.{Received}
use Rattle.handlebars_expand.specs.View.{AreCaptured}
use Rattle.handlebars_write.specs.ModeView.{ModeView}
use Rattle.handlebars_expand.specs.declared.ahead.Ahead as declared_ahead
use Rattle.handlebars_expand.specs.declared.ahead.Captured.{Captured}
use Rattle.handlebars_write.specs.declared.sink.Sink.{Sink}
use Rattle.handlebars_write.specs.declared.sink.Sink.TheVariants.{Out, Ahead}

-- ---- outputs

-- what an output holds: its text, how many of its writes have failed, and the pieces that it was given, if it receives pieces
pub record Holding : Type 0 where
  pub text : Text
  pub write_errors : ℕ
  pub emitted : Option (List Emitted)

-- the holding of an output that receives text alone
abbrev pub text_only : Held → Holding
text_only h = record { text = h.text; write_errors = h.write_errors; emitted = None }

-- the holding of an output that receives each piece
abbrev pub holding_of_pieces : Received → Holding
holding_of_pieces r = record { text = texts r.emitted; write_errors = r.write_errors; emitted = Some r.emitted }

-- the state of a run and what its output holds, at one moment
pub record Moment : Type 0 where
  pub state : State
  pub held : Holding

abbrev pub moment_at : State → Holding → Moment
moment_at s h = record { state = s; held = h }

-- what was emitted, if that is asked for
abbrev pub emitted_if : Bool → List Emitted → Option (List Emitted)
emitted_if true ts = Some ts
emitted_if false ts = None

-- what an output holds
abbrev pub holding : {O : Type 0} → ModeView O → O → Holding
holding w o = record { text = (w.held o).text; write_errors = (w.held o).write_errors; emitted = emitted_if w.asks (w.emitted o) }

-- What is rendered ahead counts no write errors. Its text is that of its pieces, if they are captured.
abbrev pub ahead_text : Bool → declared_ahead.Ahead → Text
ahead_text true a = texts (ahead_emitted a)
ahead_text false a = ahead_plain a

abbrev pub holding_ahead : Bool → declared_ahead.Ahead → Holding
holding_ahead asks a = record { text = ahead_text asks a; write_errors = 0; emitted = emitted_if asks (ahead_emitted a) }

-- what the current sink holds
abbrev pub held_in : {O T : Type 0} → ModeView O → Sink O T → Holding
held_in w (Out o x) = holding w o.now
held_in w (Ahead a) = holding_ahead w.asks a.now

-- Both are the same output, or the same text that is rendered ahead.
abbrev pub IsSame : {O T : Type 0} → Sink O T → Sink O T → Type 0
IsSame (Out a x) (Out b y) = b.ghost_name ≡ a.ghost_name
IsSame (Out a x) (Ahead b) = ⊥
IsSame (Ahead a) (Out b y) = ⊥
IsSame (Ahead a) (Ahead b) = b.ghost_name ≡ a.ghost_name

-- ---- what calls guarantee

-- why a rendering fails if a boolean helper's text couldn't be written
abbrev pub boolean_text_reason : ErrorKind → Text → Reason
boolean_text_reason OutOfMemory text = out_of_memory
boolean_text_reason _ text = other text

-- The error reports a cause: its reason follows from the kind of the cause, which it holds. At a boolean text it holds only a
-- text.
abbrev pub ReportsCause : Error → Bool → RenderError → Type 0
ReportsCause cause false e = (reason_in e ≡ write_reason (error_kind cause)) × (cause_of e ≡ IOError cause)
ReportsCause cause true e = (text : Text) × (reason_in e ≡ boolean_text_reason (error_kind cause) text)

-- The error reports a write error: its cause and its location.
pub record ReportsWriteError (cause : Error) (f : WriteError) (e : RenderError) : Type 0 where
  pub why : reason_in e ≢ out_of_memory → ReportsCause cause f.at_boolean_text e
  pub where_it_is : reason_in e ≢ out_of_memory → location_of e ≡ f.location

-- the result of a call that writes: success, or an error
abbrev pub Answered : Type 0
Answered = Result (Unit {0}) RenderError

-- How the result of a call matches the outcome of a run. A write that failed is counted. An error has the run's reason,
-- position and name. Out of memory may occur anywhere.
pub data MatchesOutcome (may : Error → Type 0) (before after : ℕ) : Outcome → Answered → State → Type 0 where
  ended : {s : State} {u : Unit {0}} → after ≡ before → MatchesOutcome may before after (Ended s) (Ok u) s
  refusal : {s : State} {e : RenderError} → after ≡ before → MatchesOutcome may before after (Failed (refusal_of e)) (Err e) s
  write_error : {s : State} {e : RenderError} (cause : Error) (f : WriteError) → may cause
      → (before + 1 < 2 ^ 64 → after ≡ before + 1) → ReportsWriteError cause f e
      → MatchesOutcome may before after (WriteFailed f) (Err e) s
  no_memory : {s : State} {e : RenderError} → after ≡ before → reason_in e ≡ out_of_memory
      → MatchesOutcome may before after NoMemory (Err e) s

-- pieces that are emitted after others, if pieces are received
abbrev pub with_emitted : List Piece → Option (List Emitted) → Option (List Emitted)
with_emitted ps None = None
with_emitted ps (Some ts) = Some (ts ++ map emitted ps)

-- An output has gained the text of pieces, and has received each of them, in order, if it receives pieces.
pub record Gains (before : Holding) (ps : List Piece) (after : Holding) : Type 0 where
  pub text : after.text ≡ before.text ++ join ps
  pub emitted : after.emitted ≡ with_emitted ps before.emitted

-- The steps were executed from one moment to another: the output has gained their pieces, and the result and the next state
-- match the outcome.
pub record RefinesSteps (p : Setting) (k : Steps) (may : Error → Type 0) (before : Moment) (r : Answered) (after : Moment)
    : Type 0 where
  pub pieces : List Piece
  pub outcome : Outcome
  pub runs : Runs p k before.state pieces outcome
  pub gains : Gains before.held pieces after.held
  pub reports : MatchesOutcome may before.held.write_errors after.held.write_errors outcome r after.state

-- The program was executed: what comes next is executed from the moment after it, or never.
pub data RefinesProg (p : Setting) (m : Prog (Unit {0})) (may : Error → Type 0) (before : Moment)
    : Answered → Moment → Type 0 where
  goes_on : {u : Unit {0}} {after : Moment}
      → ((next : Unit {0} → Steps) (r : Answered) (last : Moment)
      → RefinesSteps p (next tt) may after r last → RefinesSteps p (m next) may before r last)
      → RefinesProg p m may before (Ok u) after
  is_over : {e : RenderError} {after : Moment}
      → ((next : Unit {0} → Steps) → RefinesSteps p (m next) may before (Err e) after)
      → RefinesProg p m may before (Err e) after

-- The program, which has pieces as its value, was executed, and the code has captured them.
pub data RefinesAhead (asks : Bool) (p : Setting) (m : Prog (List Piece)) (may : Error → Type 0) (before : Moment)
    : Result Captured RenderError → Moment → Type 0 where
  has_captured : {k : Captured} {after : Moment} (ps : List Piece) → AreCaptured asks (Some ps) (Some k)
      → ((next : List Piece → Steps) (r : Answered) (last : Moment)
      → RefinesSteps p (next ps) may after r last → RefinesSteps p (m next) may before r last)
      → RefinesAhead asks p m may before (Ok k) after
  has_none : {e : RenderError} {after : Moment}
      → ((next : List Piece → Steps) → RefinesSteps p (m next) may before (Err e) after)
      → RefinesAhead asks p m may before (Err e) after

-- ---- programs that have a value

-- The steps succeed from this state, and the text is that of their pieces.
pub record GivesString (p : Setting) (k : Steps) (s next : State) (text : Text) : Type 0 where
  pub pieces : List Piece
  pub runs : Runs p k s pieces (Ended next)
  pub is : text ≡ join pieces

-- The steps fail with this refusal from this state.
pub record StringFails (p : Setting) (k : Steps) (s : State) (r : Refusal) : Type 0 where
  pub pieces : List Piece
  pub runs : Runs p k s pieces (Failed r)
