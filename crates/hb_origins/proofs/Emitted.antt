-- What follows from the pieces that a rendering emits.
use Rattle.std.proofs.Common.{[], Result, Ok, Err, IfErr, subst, sym}
use Rattle.std.specs.Prelude.{String}
use Rattle.std.specs.Global.{Global}
use Rattle.std.specs.declared.io.Error.{Error}
use Rattle.serde_json.specs.Data.{Data}
use Rattle.handlebars_base.specs.Bytes.{Text}
use Rattle.handlebars_base.specs.declared.error.render_error.RenderError.{RenderError}
use Rattle.handlebars_helpers.specs.UserAnswers.{UserAnswers, Registrations}
use Rattle.handlebars_base.specs.Reasons.{Refusal}
use Rattle.handlebars_semantics.specs.Answer.{FromSource, RenderAnswers, does_not, not_begun}
use Rattle.handlebars_semantics.specs.Runs.{Failed}
use Rattle.handlebars_expand.specs.Received.{Received}
use Rattle.handlebars_write.specs.View.{Answered}
use Rattle.handlebars.specs.Calls.{written_after, failed_at_file, no_memory_to_read, compiled_so, failed_so, no_memory_to_compile}
use Rattle.handlebars.specs.Over.{ForSource, setting_under}
use Rattle.handlebars.specs.PieceCalls.{EmitsPieces, EmitsSource, all_emitted, emitted_before_error, output_failed, emitted_before_memory}
use Rattle.handlebars.specs.View.{options_of}
use Rattle.handlebars.specs.declared.registry.RegistryOf.{RegistryOf}
use Rattle.hb_origins.specs.Ends.{EndsAsRendering, EndsWell, FailsSo, IsErrorOf, IsOutput, of_answer, of_file, of_output, of_memory}
use Rattle.hb_origins.specs.declared.error.OriginsError.{OriginsError}
use Rattle.hb_origins.specs.declared.error.OriginsError.TheVariants.{Rendering, Output}

module _ {S : Type 0} (reads : S → Text → Result (String Global) Error → S → Type 0) {E : Type 0} (registered : E → Registrations)
    (user : E → UserAnswers) (r : RegistryOf E) (source : Text) (over : Data) (may : Error → Type 0) where
  abbrev Emits : S → S → Received → Received → Answered → Type 0
  Emits before after = EmitsSource reads r (options_of r) source before after
      (λ read. ForSource EmitsPieces registered user r source read over may)

  pub ends_well : (before after : S) (first last : Received) (u : Unit {0}) → Emits before after first last (Ok u)
      → EndsWell registered user r source over
  ends_well before after first last u (compiled_so c (written_after {read = read} reads_all (all_emitted {ps = ps} {last = s} answers were))) =
      record { read = read; pieces = ps; last = s; answers = answers }

  pub fails_so : (before after : S) (first last : Received) (e : RenderError) → Emits before after first last (Err e)
      → FailsSo registered user r source over e
  fails_so before after first last e (compiled_so c (written_after {read = read} reads_all (emitted_before_error answers were))) =
      of_answer read answers
  fails_so before after first last e (compiled_so c (written_after {read = read} reads_all (output_failed cause f given answers reports are were))) =
      of_output read cause f answers reports
  fails_so before after first last e (compiled_so c (written_after reads_all (emitted_before_memory memory are were))) = of_memory memory
  fails_so before after first last e (compiled_so c (failed_at_file {why = why} reads_some stop same)) = of_file why stop
  fails_so before after first last e (compiled_so c (no_memory_to_read memory same)) = of_memory memory
  fails_so before after first last e (failed_so c same is none) =
      of_answer [] (subst (λ (q : Refusal). RenderAnswers (setting_under registered user [] r over) (FromSource (options_of r) source) [] (Failed q))
      (sym is) (not_begun (does_not c)))
  fails_so before after first last e (no_memory_to_compile memory same none) = of_memory memory

module _ {E : Type 0} (registered : E → Registrations) (user : E → UserAnswers) (r : RegistryOf E) (source : Text) (over : Data) where
  -- an error of the rendering is reported, or one of the output
  pub ends_failed : (cause : RenderError) (e : OriginsError) → IsErrorOf cause e → FailsSo registered user r source over cause
      → EndsAsRendering registered user r source over (Err e)
  ends_failed cause (Rendering e) is fails = subst (λ (x : RenderError). FailsSo registered user r source over x) (sym is) fails
  ends_failed cause (Output why) is fails = tt

  pub ends_output : (e : OriginsError) → IsOutput e → EndsAsRendering registered user r source over (Err e)
  ends_output (Rendering e) is = absurd is
  ends_output (Output why) is = tt

  -- the rendering ended well, and the output did or failed
  pub ends_written : (answer : Result (Unit {0}) OriginsError) → IfErr answer IsOutput → EndsWell registered user r source over
      → EndsAsRendering registered user r source over answer
  ends_written (Ok u) is well = well
  ends_written (Err e) is well = ends_output e is
