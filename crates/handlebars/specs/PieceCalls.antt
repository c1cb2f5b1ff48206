-- What the contracts of the calls that emit pieces say of their output.
use Rattle.std.specs.Prelude.{◌≡◌, ◌+◌, ◌<◌, ◌^◌, ◌++◌, List, map, Option, Result, Ok, Err, String}
use Rattle.std.specs.Global.{Global}
use Rattle.std.specs.declared.io.Error.{Error}
use Rattle.handlebars_base.specs.Bytes.{Text}
use Rattle.handlebars_base.specs.Reasons.{out_of_memory}
use Rattle.handlebars_base.specs.RenderRefusals.{reason_in, refusal_of}
use Rattle.handlebars_base.specs.declared.error.render_error.RenderError.{RenderError}
use Rattle.handlebars_lexer.specs.Options.{Options}
use Rattle.handlebars_semantics.specs.Answer.{Beginning, RenderAnswers}
use Rattle.handlebars_semantics.specs.Pieces.{Piece}
use Rattle.handlebars_semantics.specs.Runs.{Outcome, Ended, Failed, WriteFailed, WriteError, Prefix, IsStop}
use Rattle.handlebars_semantics.specs.State.{Setting, State}
use Rattle.handlebars_semantics.specs.Emitted.{emitted}
use Rattle.handlebars_expand.specs.Received.{Received}
use Rattle.handlebars_write.specs.View.{Answered, ReportsWriteError}
use Rattle.handlebars.specs.Calls.{Reading, ReadingSource}
use Rattle.handlebars.specs.Files.{Loaded}
use Rattle.handlebars.specs.declared.registry.RegistryOf.{RegistryOf}

-- These pieces were emitted to it, in order, after those before, and it returned no error.
pub record WereEmitted (before : Received) (ps : List Piece) (after : Received) : Type 0 where
  pub emitted : after.emitted ≡ before.emitted ++ map emitted ps
  pub write_errors : after.write_errors ≡ before.write_errors

-- These pieces were emitted to it, and then it returned one error, which is counted as far as 64 bits can count.
pub record WereEmittedBeforeError (before : Received) (ps : List Piece) (after : Received) : Type 0 where
  pub emitted : after.emitted ≡ before.emitted ++ map emitted ps
  pub write_errors : before.write_errors + 1 < 2 ^ 64 → after.write_errors ≡ before.write_errors + 1

module _ (p : Setting) (begins : Beginning → Type 0) where
  -- The pieces are the first ones of the answer, the last of them perhaps in part, if there is an answer that doesn't stop on
  -- the way.
  abbrev pub AreFirstOfAnswer : List Piece → Type 0
  AreFirstOfAnswer xs = (ps : List Piece) (o : Outcome) → RenderAnswers p begins ps o → (IsStop o → ⊥) → ∥ Prefix xs ps ∥₁

  -- All pieces of the answer are emitted. If the answer is an error, the pieces before it are emitted. If memory runs out, the
  -- first pieces of the answer are emitted. In these cases the output has returned no error. If it returns one, the first
  -- pieces of the answer are emitted, and nothing follows that error, which the call reports.
  pub data EmitsPieces (may : Error → Type 0) (before after : Received) : Answered → Type 0 where
    all_emitted : {ps : List Piece} {last : State} {u : Unit {0}} → RenderAnswers p begins ps (Ended last)
        → WereEmitted before ps after → EmitsPieces may before after (Ok u)
    emitted_before_error : {ps : List Piece} {e : RenderError} → RenderAnswers p begins ps (Failed (refusal_of e))
        → WereEmitted before ps after → EmitsPieces may before after (Err e)
    output_failed : {ps : List Piece} {e : RenderError} (cause : Error) (f : WriteError) → may cause
        → RenderAnswers p begins ps (WriteFailed f) → ReportsWriteError cause f e → AreFirstOfAnswer ps
        → WereEmittedBeforeError before ps after → EmitsPieces may before after (Err e)
    emitted_before_memory : {ps : List Piece} {e : RenderError} → reason_in e ≡ out_of_memory → AreFirstOfAnswer ps
        → WereEmitted before ps after → EmitsPieces may before after (Err e)

-- ---- calls that read files first

-- nothing was emitted to it, and it returned no error
abbrev pub EmittedNothing : Received → Received → Type 0
EmittedNothing before after = after ≡ before

module _ {S : Type 0} (reads : S → Text → Result (String Global) Error → S → Type 0) {E : Type 0} (r : RegistryOf E) where
  abbrev pub EmitsReading : Option Text → S → S → (List Loaded → Received → Received → Answered → Type 0)
      → Received → Received → Answered → Type 0
  EmitsReading = Reading reads r EmittedNothing

  abbrev pub EmitsSource : Options → Text → S → S → (List Loaded → Received → Received → Answered → Type 0)
      → Received → Received → Answered → Type 0
  EmitsSource = ReadingSource reads r EmittedNothing
