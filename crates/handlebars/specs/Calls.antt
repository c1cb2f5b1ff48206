-- What the contracts of the calls that render say of a writer, of files that are read first, and of data that is converted
-- first.
use Rattle.std.specs.Io.KnownBytes.{Appends}
use Rattle.std.specs.Global.{Global}
use Rattle.std.specs.Prelude.{◌≡◌, ◌⊎◌, List, [], Option, None, Some, Result, Ok, Err, String}
use Rattle.std.specs.declared.io.Error.{Error}
use Rattle.serde.specs.Event.{Log}
use Rattle.serde_json.specs.Data.{Data}
use Rattle.handlebars_base.specs.Answers.{gives, fails}
use Rattle.handlebars_base.specs.Bytes.{Text}
use Rattle.handlebars_base.specs.Outputs.{IsPrefix}
use Rattle.handlebars_base.specs.Reasons.{Refusal, TemplateRefusal, of_template, out_of_memory}
use Rattle.handlebars_base.specs.RenderRefusals.{plain_refusal, reason_in, refusal_of}
use Rattle.handlebars_base.specs.declared.error.render_error.RenderError.{RenderError}
use Rattle.handlebars_scope.specs.Wraps.{IsConversion}
use Rattle.handlebars_lexer.specs.Options.{Options}
use Rattle.handlebars_template.specs.Compile.{Compiles, compiled, rejected}
use Rattle.handlebars_template.specs.Tree.{Tree}
use Rattle.handlebars_semantics.specs.Answer.{Beginning, a_tree, RenderAnswers, GivesText, FailsWith}
use Rattle.handlebars_semantics.specs.Pieces.{Piece, join}
use Rattle.handlebars_semantics.specs.Runs.{Outcome, Ended, Failed, WriteFailed, WriteError, IsStop}
use Rattle.handlebars_semantics.specs.State.{Setting, State}
use Rattle.handlebars_write.specs.View.{Answered, ReportsWriteError}
use Rattle.handlebars.specs.Dev.{ReadsFor}
use Rattle.handlebars.specs.Files.{Loaded, Stop, ReportsStop}
use Rattle.handlebars.specs.declared.registry.RegistryOf.{RegistryOf}

-- ---- calls to a writer

-- the result of a call, its error viewed as a `RenderError`
abbrev pub answer_by : {X : Type 0} → (X → RenderError) → Result (Unit {0}) X → Answered
answer_by seen (Ok u) = Ok u
answer_by seen (Err e) = Err (seen e)

-- a rendering that begins with this tree
abbrev pub BeginsWith : Tree → Beginning → Type 0
BeginsWith t b = b ≡ a_tree t

module _ (p : Setting) (begins : Beginning → Type 0) where
  -- The text is a prefix of the answer's text, if there is an answer that doesn't stop on the way.
  abbrev pub IsBeginningOfAnswer : Text → Type 0
  IsBeginningOfAnswer t = (ps : List Piece) (o : Outcome)
      → RenderAnswers p begins ps o → (IsStop o → ⊥) → ∥ IsPrefix t (join ps) ∥₁

  -- What the contract of a call says of a writer, if the writer reports what it holds before the call and after it. The call
  -- writes all of the answer's text. If the answer is an error, the call fails with that error, and writes the text before
  -- it. If the writer fails, or if memory runs out, the call writes a prefix of the answer's text.
  pub data Writes (before after : Option Text) : Answered → Type 0 where
    all_written : {ps : List Piece} {last : State} {u : Unit {0}} → RenderAnswers p begins ps (Ended last)
        → Appends before after (join ps) → Writes before after (Ok u)
    failed_after : {ps : List Piece} {e : RenderError} → RenderAnswers p begins ps (Failed (refusal_of e))
        → Appends before after (join ps) → Writes before after (Err e)
    writer_failed : {ps : List Piece} {e : RenderError} (cause : Error) (f : WriteError) → RenderAnswers p begins ps (WriteFailed f)
        → ReportsWriteError cause f e → IsBeginningOfAnswer (join ps) → Appends before after (join ps) → Writes before after (Err e)
    memory_failed : {e : RenderError} (t : Text) → reason_in e ≡ out_of_memory
        → IsBeginningOfAnswer t → Appends before after t → Writes before after (Err e)

  -- neither the writer failed, nor did memory run out
  abbrev pub IsUnbroken : {before after : Option Text} {r : Answered} → Writes before after r → Type 0
  IsUnbroken (all_written a w) = Unit {0}
  IsUnbroken (failed_after a w) = Unit {0}
  IsUnbroken (writer_failed cause f a reports is w) = ⊥
  IsUnbroken (memory_failed t memory is w) = ⊥

-- ---- calls into texts and to writers

-- What a call comes to: it returns a text or an error; or it writes to a writer, which reports what it holds before the call
-- and after it, and returns this.
pub data CallResult : Type 0 where
  returned : Result Text Refusal → CallResult
  wrote : (before after : Option Text) → Answered → CallResult

-- The call gave this text: it returned the text, or wrote it. If a call that returns a text fails, it gives none.
abbrev pub Gave : CallResult → Text → Type 0
Gave (returned (Ok t)) u = t ≡ u
Gave (returned (Err q)) u = Unit {0}
Gave (wrote before after r) u = Appends before after u

-- the error with which the call failed, if it did
abbrev pub call_error : CallResult → Option Refusal
call_error (returned (Ok t)) = None
call_error (returned (Err q)) = Some q
call_error (wrote before after (Ok u)) = None
call_error (wrote before after (Err e)) = Some (refusal_of e)

-- Two calls gave one text, and both ended well or failed with one error. That the errors are equal holds up to truncation.
pub record IsSameResult (a b : CallResult) : Type 0 where
  pub text : Text
  pub of_first : Gave a text
  pub of_second : Gave b text
  pub errors : ∥ call_error a ≡ call_error b ∥₁

module _ (p : Setting) (begins : Beginning → Type 0) where
  -- What the contract of a call says of the answer, if neither the writer fails nor memory runs out.
  abbrev pub ComesOfAnswer : CallResult → Type 0
  ComesOfAnswer (returned (Ok t)) = GivesText p begins t
  ComesOfAnswer (returned (Err q)) = FailsWith p begins q
  ComesOfAnswer (wrote before after r) = (w : Writes p begins before after r) × IsUnbroken p begins w

  -- Two calls agree, whether they return a text or write to a writer.
  abbrev pub CallsAgree : Type 0
  CallsAgree = (a b : CallResult) → ComesOfAnswer a → ComesOfAnswer b → IsSameResult a b

  -- If a call to a writer ends well, neither the writer failed, nor did memory run out.
  abbrev pub EndsUnbroken : Type 0
  EndsUnbroken = (before after : Option Text) (u : Unit {0}) (w : Writes p begins before after (Ok u)) → IsUnbroken p begins w

-- ---- calls with an output that read files first

module _ {S : Type 0} (reads : S → Text → Result (String Global) Error → S → Type 0) {E : Type 0} (r : RegistryOf E)
    {X : Type 0} (IsAsBefore : X → X → Type 0) where
  -- What such a call says of what its output holds, with the reader before and after it. If all files are read and compiled,
  -- the call writes to the output with their trees. If one of them fails, or if memory runs out, nothing is written.
  pub data Reading (asked : Option Text) (before after : S) (to : List Loaded → X → X → Answered → Type 0)
      (first last : X) : Answered → Type 0 where
    written_after : {read : List Loaded} {a : Answered} → ReadsFor reads r asked before after read (Ok tt) → to read first last a
        → Reading asked before after to first last a
    failed_at_file : {read : List Loaded} {e : RenderError} {why : Stop} → ReadsFor reads r asked before after read (Err why)
        → ReportsStop why e → IsAsBefore first last → Reading asked before after to first last (Err e)
    no_memory_to_read : {e : RenderError} → reason_in e ≡ out_of_memory → IsAsBefore first last
        → Reading asked before after to first last (Err e)

  -- What a call with a source says of its output and of the reader. If the source doesn't compile, or if memory runs out, no
  -- file is asked for and nothing is written.
  pub data ReadingSource (options : Options) (source : Text) (before after : S)
      (to : List Loaded → X → X → Answered → Type 0) (first last : X) : Answered → Type 0 where
    compiled_so : {t : Tree} {a : Answered} → Compiles source options (compiled t) → Reading None before after to first last a
        → ReadingSource options source before after to first last a
    failed_so : {e : RenderError} {f : TemplateRefusal} → Compiles source options (rejected f) → after ≡ before
        → refusal_of e ≡ plain_refusal (of_template f) → IsAsBefore first last → ReadingSource options source before after to first last (Err e)
    no_memory_to_compile : {e : RenderError} → reason_in e ≡ out_of_memory → after ≡ before → IsAsBefore first last
        → ReadingSource options source before after to first last (Err e)

-- nothing was written to a writer
abbrev pub AppendsNothing : Option Text → Option Text → Type 0
AppendsNothing before after = Appends before after []

module _ {S : Type 0} (reads : S → Text → Result (String Global) Error → S → Type 0) {E : Type 0} (r : RegistryOf E) where
  -- What calls say of a writer.
  abbrev pub WritesReading : Option Text → S → S → (List Loaded → Option Text → Option Text → Answered → Type 0)
      → Option Text → Option Text → Answered → Type 0
  WritesReading = Reading reads r AppendsNothing

  abbrev pub WritesSource : Options → Text → S → S → (List Loaded → Option Text → Option Text → Answered → Type 0)
      → Option Text → Option Text → Answered → Type 0
  WritesSource = ReadingSource reads r AppendsNothing

-- ---- calls that convert their data

module _ {T : Type 0} (writes : T → Log → Log → Type 0) (x : T) where
  -- The conversion gave data of which this holds.
  abbrev pub Converts : (Data → Type 0) → Type 0
  Converts holds = (d : Data) × IsConversion writes x (gives d) × holds d

  -- The conversion gave data of which this holds, or it failed with this reason and no file was asked for.
  abbrev pub ConvertsOr : Refusal → Type 0 → (Data → Type 0) → Type 0
  ConvertsOr r unread holds = (IsConversion writes x (fails r) × unread) ⊎ Converts holds

  -- What a call that converts its data first says of a writer. If the conversion fails, no file is asked for and nothing is
  -- written.
  pub data WritesConverted (unread : Type 0) (to : Data → Option Text → Option Text → Answered → Type 0) (before after : Option Text)
      : Answered → Type 0 where
    converted : {d : Data} {r : Answered} → IsConversion writes x (gives d) → to d before after r
        → WritesConverted unread to before after r
    not_converted : {e : RenderError} → IsConversion writes x (fails (refusal_of e)) → unread → Appends before after []
        → WritesConverted unread to before after (Err e)
    no_memory_to_convert : {e : RenderError} → reason_in e ≡ out_of_memory → unread → Appends before after []
        → WritesConverted unread to before after (Err e)
