-- What is reported of failures, and what is printed.
use Rattle.std.proofs.Common.{◌≡◌, ◌≢◌, ◌⊎◌, Bool, true, false, true≢false, [], append-nil, Option, Some, None, Result, Ok, Err, IfErr, OnOk, refl, sym, ap, ◌∙◌, inl, inr}
use Rattle.std.specs.Io.KnownBytes.{Appends}
use Rattle.serde_json.specs.Data.{Data}
use Rattle.handlebars_base.specs.Bytes.{Text}
use Rattle.handlebars_template.specs.Tree.{Tree}
use Rattle.handlebars_helpers.specs.UserAnswers.{UserAnswers, Registrations}
use Rattle.handlebars_semantics.specs.State.{State}
use Rattle.handlebars.specs.declared.registry.RegistryOf.{RegistryOf}
use Rattle.hb_build.specs.Given.{IfFault}
use Rattle.hb_build.specs.declared.source.Failure.{Failure as BuildFailure}
use Rattle.hb_build.specs.declared.source.Failure.TheVariants as fault
use Rattle.hb_command.specs.Failures.{kind_of}
use Rattle.hb.specs.Items.{ReportsFailure}
use Rattle.hb.specs.Pages.{GivesNoPage, GivesPage, Prints, printed, not_rendered, not_written, no_memory}
use Rattle.hb_command.specs.declared.failure.Failure.{Failure}
use Rattle.hb_command.specs.declared.failure.Kind.{Kind}
use Rattle.hb_command.specs.declared.failure.Kind.TheVariants.{Arguments, Input, Template, Rendering, Output, OutOfMemory}

abbrev is_memory : Kind → Bool
is_memory Arguments = false
is_memory Input = false
is_memory Template = false
is_memory Rendering = false
is_memory Output = false
is_memory OutOfMemory = true

not_memory : (k : Kind) → is_memory k ≡ false → k ≢ OutOfMemory
not_memory k unlike is = true≢false (sym (ap is_memory is) ∙ unlike)

memory_or_not : (k : Kind) → (k ≡ OutOfMemory) ⊎ (k ≢ OutOfMemory)
memory_or_not Arguments = inr (not_memory Arguments refl)
memory_or_not Input = inr (not_memory Input refl)
memory_or_not Template = inr (not_memory Template refl)
memory_or_not Rendering = inr (not_memory Rendering refl)
memory_or_not Output = inr (not_memory Output refl)
memory_or_not OutOfMemory = inl refl

abbrev is_reported_memory : BuildFailure → Bool
is_reported_memory fault.OutOfMemory = true
is_reported_memory (fault.Fault message) = false

-- what holds unless memory ran out holds where a fault is reported
pub holds_of_fault : (f : Failure) (reported : BuildFailure) (X : Type 0) → ReportsFailure f reported → (kind_of f ≢ OutOfMemory → X) → IfFault reported X
holds_of_fault f fault.OutOfMemory X reports why = tt
holds_of_fault f (fault.Fault message) X reports why = why (λ is. true≢false (sym (ap is_reported_memory (reports.memory is))))

appends_nothing : (known : Option Text) → Appends known known []
appends_nothing None = tt
appends_nothing (Some bytes) = sym (append-nil bytes)

module _ {E : Type 0} (registered : E → Registrations) (user : E → UserAnswers) (r : RegistryOf E) (tree : Tree) (raw : Bool) (given : Option Data) (begins : State) where
  -- a text is written, or the output fails
  pub prints_text : (before after : Option Text) (text : Text) (result : Result (Unit {0}) Failure) → OnOk result (Appends before after text)
      → IfErr result (λ f. kind_of f ≢ OutOfMemory → kind_of f ≡ Output) → GivesPage registered user r tree raw given begins text
      → Prints registered user r tree raw given begins before after result
  prints_text before after text (Ok u) wrote failed gives = printed gives wrote
  prints_text before after text (Err f) wrote failed gives = elim (memory_or_not (kind_of f)) [
    | inl is ↦ no_memory is
    | inr unlike ↦ not_written (failed unlike)
  ]

  -- where there is no text, nothing is written
  pub prints_nothing : (before : Option Text) (f : Failure) → (kind_of f ≢ OutOfMemory → GivesNoPage registered user r tree raw given begins)
      → Prints registered user r tree raw given begins before before (Err f)
  prints_nothing before f none = elim (memory_or_not (kind_of f)) [
    | inl is ↦ no_memory is
    | inr unlike ↦ not_rendered (none unlike) (appends_nothing before)
  ]
