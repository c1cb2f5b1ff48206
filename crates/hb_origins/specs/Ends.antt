-- How a call ends that prints the pieces of a rendering.
use Rattle.std.specs.Prelude.{◌≡◌, List, Result, Ok, Err}
use Rattle.std.specs.declared.io.Error.{Error}
use Rattle.serde_json.specs.Data.{Data}
use Rattle.handlebars_base.specs.Bytes.{Text}
use Rattle.handlebars_base.specs.Reasons.{out_of_memory}
use Rattle.handlebars_base.specs.RenderRefusals.{reason_in, refusal_of}
use Rattle.handlebars_base.specs.declared.error.render_error.RenderError.{RenderError}
use Rattle.handlebars_helpers.specs.UserAnswers.{UserAnswers, Registrations}
use Rattle.handlebars_semantics.specs.Answer.{FromSource, RenderAnswers}
use Rattle.handlebars_semantics.specs.Pieces.{Piece}
use Rattle.handlebars_semantics.specs.Runs.{Ended, Failed, WriteFailed, WriteError}
use Rattle.handlebars_semantics.specs.State.{Setting, State}
use Rattle.handlebars_write.specs.View.{ReportsWriteError}
use Rattle.handlebars.specs.Files.{Loaded, Stop, ReportsStop}
use Rattle.handlebars.specs.Over.{setting_under}
use Rattle.handlebars.specs.View.{options_of}
use Rattle.handlebars.specs.declared.registry.RegistryOf.{RegistryOf}
use Rattle.hb_origins.specs.declared.error.OriginsError.{OriginsError}
use Rattle.hb_origins.specs.declared.error.OriginsError.TheVariants.{Rendering, Output}

module _ {E : Type 0} (registered : E → Registrations) (user : E → UserAnswers) (r : RegistryOf E) (source : Text) (over : Data) where
  -- what a rendering reads, with the trees that were read before
  abbrev pub reading : List Loaded → Setting
  reading read = setting_under registered user read r over

  -- The rendering ends well: its answer has these pieces, and no error.
  pub record EndsWell : Type 0 where
    pub read : List Loaded
    pub pieces : List Piece
    pub last : State
    pub answers : RenderAnswers (reading read) (FromSource (options_of r) source) pieces (Ended last)

  -- The rendering fails with this error: it is the answer's, also that of a source that doesn't compile; or it reports a file that
  -- can't be read; or an error of the output; or that memory ran out.
  pub data FailsSo (e : RenderError) : Type 0 where
    of_answer : (read : List Loaded) {ps : List Piece}
        → RenderAnswers (reading read) (FromSource (options_of r) source) ps (Failed (refusal_of e)) → FailsSo e
    of_file : (why : Stop) → ReportsStop why e → FailsSo e
    of_output : (read : List Loaded) {ps : List Piece} (cause : Error) (f : WriteError)
        → RenderAnswers (reading read) (FromSource (options_of r) source) ps (WriteFailed f) → ReportsWriteError cause f e → FailsSo e
    of_memory : reason_in e ≡ out_of_memory → FailsSo e

  -- A call that prints ends well only if the rendering does, and fails with an error of the rendering only if that does.
  abbrev pub EndsAsRendering : Result (Unit {0}) OriginsError → Type 0
  EndsAsRendering (Ok u) = EndsWell
  EndsAsRendering (Err (Rendering e)) = FailsSo e
  EndsAsRendering (Err (Output cause)) = Unit {0}

-- an error of the output
abbrev pub IsOutput : OriginsError → Type 0
IsOutput (Rendering e) = ⊥
IsOutput (Output cause) = Unit {0}

-- this error of a rendering, or one of the output
abbrev pub IsErrorOf : RenderError → OriginsError → Type 0
IsErrorOf cause (Rendering e) = e ≡ cause
IsErrorOf cause (Output why) = Unit {0}
