-- What the code's outcome of a write or a rendering represents.
use Rattle.std.specs.Prelude.{Bool, Ok, Err, MatchResult}
use Rattle.std.specs.declared.io.Error.{Error as Cause}
use Rattle.handlebars_semantics.specs.Runs.{plain_write_error}
use Rattle.handlebars_expand.specs.Boxed.{error_of}
use Rattle.handlebars_expand.specs.declared.boxed.BoxedError.TheVariants as boxed
use Rattle.handlebars_write.specs.View.{Answered, ReportsWriteError}
use Rattle.handlebars_write.specs.declared.outcome.Outcome.{Outcome}
use Rattle.handlebars_write.specs.declared.outcome.Outcome.TheVariants.{Done, OutOfMemory, Error}

-- the answer of a call that is out of memory
abbrev pub memory_answer : Answered
memory_answer = Err (error_of boxed.OutOfMemory)

-- the answer of a call that returns the outcome
abbrev pub outcome_answer : Outcome → Answered
outcome_answer Done = Ok tt
outcome_answer OutOfMemory = memory_answer
outcome_answer (Error e) = Err e.value

-- The fact holds, unless this is success.
abbrev pub UnlessDone : Outcome → Type 0 → Type 0
UnlessDone Done P = Unit {0}
UnlessDone OutOfMemory P = P
UnlessDone (Error e) P = P

-- This is an error that reports a write error, at a boolean text or not.
abbrev pub Reports : Cause → Bool → Outcome → Type 0
Reports cause at_boolean_text outcome =
    MatchResult (outcome_answer outcome) (λ u. ⊥) (λ e. ReportsWriteError cause (plain_write_error at_boolean_text) e)
