-- What a rendering into a text returns.
use Rattle.std.proofs.Common.{◌≡◌, ◌≢◌, ℕ, Bool, true, false, [], ◌++◌, Ok, Err, refl, ap, ◌∙◌, subst}
use Rattle.std.specs.declared.io.Error.{Error}
use Rattle.std.specs.declared.io.ErrorKind.TheVariants.{OutOfMemory}
use Rattle.std.specs.IoError.{error_kind}
use Rattle.handlebars_base.specs.Bytes.{Text}
use Rattle.handlebars_base.specs.Reasons.{out_of_memory}
use Rattle.handlebars_base.specs.RenderRefusals.{reason_in, refusal_of}
use Rattle.handlebars_base.specs.declared.error.render_error.RenderError.{RenderError}
use Rattle.handlebars_base.specs.Outputs.{write_reason}
use Rattle.handlebars_semantics.specs.Pieces.{join}
use Rattle.handlebars_semantics.specs.State.{Setting, State}
use Rattle.handlebars_semantics.specs.Steps.{Steps}
use Rattle.handlebars_semantics.specs.Runs.{Outcome, Ended, Failed, Runs}
use Rattle.handlebars_write.specs.View.{ReportsCause, boolean_text_reason, MatchesOutcome, ended, refusal, write_error, no_memory, RefinesSteps, GivesString, Holding, StringFails, moment_at}

ended_so : {may : Error → Type 0} {before after : ℕ} {o : Outcome} {u : Unit {0}} {next : State}
    → MatchesOutcome may before after o (Ok u) next → o ≡ Ended next
ended_so (ended same) = refl

-- out of memory remains out of memory, also within a boolean text
memory_unchanged : (cause : Error) (at_boolean_text : Bool) (e : RenderError) → ReportsCause cause at_boolean_text e
    → error_kind cause ≡ OutOfMemory → reason_in e ≡ out_of_memory
memory_unchanged cause false e reports is = reports.0 ∙ ap write_reason is
memory_unchanged cause true e reports is = reports.1 ∙ ap (λ kind. boolean_text_reason kind reports.0) is

failed_so : {may : Error → Type 0} {before after : ℕ} {o : Outcome} {e : RenderError} {next : State}
    → ((cause : Error) → may cause → error_kind cause ≡ OutOfMemory) → reason_in e ≢ out_of_memory
    → MatchesOutcome may before after o (Err e) next → o ≡ Failed (refusal_of e)
failed_so only other (refusal same) = refl
failed_so {e = e} only other (write_error cause f given count reports) =
    absurd (other (memory_unchanged cause f.at_boolean_text e (reports.why other) (only cause given)))
failed_so only other (no_memory same is) = absurd (other is)

module _ (p : Setting) (k : Steps) (may : Error → Type 0) where
  pub gives_string : {s next : State} {h new : Holding} {u : Unit {0}} → h.text ≡ []
      → RefinesSteps p k may (moment_at s h) (Ok u) (moment_at next new) → GivesString p k s next new.text
  gives_string {s = s} empty c = record {
    pieces = c.pieces;
    runs = subst (λ (o : Outcome). Runs p k s c.pieces o) (ended_so c.reports) c.runs;
    is = c.gains.text ∙ ap (λ (xs : Text). xs ++ join c.pieces) empty;
  }

  pub string_fails : {s next : State} {h new : Holding} (e : RenderError)
      → ((cause : Error) → may cause → error_kind cause ≡ OutOfMemory) → reason_in e ≢ out_of_memory
      → RefinesSteps p k may (moment_at s h) (Err e) (moment_at next new) → StringFails p k s (refusal_of e)
  string_fails {s = s} e only other c = record {
    pieces = c.pieces;
    runs = subst (λ (o : Outcome). Runs p k s c.pieces o) (failed_so only other c.reports) c.runs;
  }
