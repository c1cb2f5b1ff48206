-- What the items of a build answer.
use Rattle.std.specs.Prelude.{◌≡◌, ◌≢◌, Bool, true, false, Option, Some, None, Result, Ok, Err, String}
use Rattle.std.specs.declared.alloc.Global.{Global}
use Rattle.hb_build.specs.declared.source.Failure.{Failure as BuildFailure}
use Rattle.hb_build.specs.declared.source.Failure.TheVariants as of_build
use Rattle.hb_command.specs.Failures.{kind_of, message_of}
use Rattle.hb_command.specs.declared.failure.Failure.{Failure}
use Rattle.hb_command.specs.declared.failure.Kind.TheVariants.{OutOfMemory}

module _ {S : Type 0} where
  -- A rewind succeeds, or not. When memory runs out, nothing is said.
  abbrev pub Rewinds : (S → Bool → S → Type 0) → S → Result (Unit {0}) Failure → S → Type 0
  Rewinds may old (Ok _) new = may old true new
  Rewinds may old (Err f) new = kind_of f ≢ OutOfMemory → may old false new

  -- An advance gives an answer, or none. When memory runs out, nothing is said.
  abbrev pub Advances : (S → Option Bool → S → Type 0) → S → Result Bool Failure → S → Type 0
  Advances may old (Ok more) new = may old (Some more) new
  Advances may old (Err f) new = kind_of f ≢ OutOfMemory → may old None new

-- What a build receives of a failure: its message, or that memory ran out.
pub record ReportsFailure (f : Failure) (reported : BuildFailure) : Type 0 where
  pub memory : kind_of f ≡ OutOfMemory → reported ≡ of_build.OutOfMemory
  pub fault : (message : String Global) → kind_of f ≢ OutOfMemory → message_of f ≡ Some message → reported ≡ of_build.Fault message
