-- Why a run fails, and with which status it ends.
use Rattle.std.specs.Prelude.{◌≡◌, ◌⊎◌, ℕ, List, Option, String, codes, if◌then◌else◌}
use Rattle.std.specs.Str.{bytes_eq}
use Rattle.std.specs.IoError.{error_kind}
use Rattle.std.specs.declared.alloc.Global.{Global}
use Rattle.std.specs.declared.io.ErrorKind.{ErrorKind}
use Rattle.std.specs.declared.io.ErrorKind.TheVariants as io
use Rattle.hb_build.specs.declared.error.BuildError.{BuildError}
use Rattle.hb_build.specs.declared.error.BuildError.TheVariants as stop
use Rattle.hb_build.specs.declared.outcome.Cause.{Cause}
use Rattle.hb_build.specs.declared.outcome.Cause.TheVariants as cause
use Rattle.hb_build.specs.declared.source.Failure as source
use Rattle.hb_build.specs.declared.source.Failure.TheVariants as fault
use Rattle.hb_command.specs.declared.failure.Failure.{Failure}
use Rattle.hb_command.specs.declared.failure.Kind.{Kind}
use Rattle.hb_command.specs.declared.failure.Kind.TheVariants.{Arguments, Input, Template, Rendering, Output, OutOfMemory}

abbrev pub kind_of : Failure → Kind
kind_of f = f.kind

abbrev pub message_of : Failure → Option (String Global)
message_of f = f.message

-- The exit status: 2 for wrong arguments and for what can't be read, and 1 for any other failure.
abbrev pub status_of : Kind → ℕ
status_of Arguments = 2
status_of Input = 2
status_of Template = 1
status_of Rendering = 1
status_of Output = 1
status_of OutOfMemory = 1

-- A run that fails for this ends with this status, unless memory ran out.
abbrev pub EndsWith : ℕ → Failure → Type 0
EndsWith status f = (kind_of f ≡ OutOfMemory) ⊎ (status_of (kind_of f) ≡ status)

-- A failure of memory stays one.
abbrev pub kind_or_memory : Kind → source.Failure → Kind
kind_or_memory kind fault.OutOfMemory = OutOfMemory
kind_or_memory kind (fault.Fault message) = kind

-- what a run fails for where the system reports an error; one of memory stays one
abbrev pub kind_of_io : ErrorKind → Kind
kind_of_io io.OutOfMemory = OutOfMemory
kind_of_io kind = Arguments

-- What a build fails for before its first item for which something is in the way, or that can't be looked at.
abbrev pub kind_of_cause : Cause → Kind
kind_of_cause (cause.Text failure) = kind_or_memory Arguments failure
kind_of_cause cause.NotAFile = Arguments
kind_of_cause cause.NotAFolder = Arguments
kind_of_cause (cause.Store e) = kind_of_io (error_kind e)

-- What a build fails for that stops before its first item: for items that can't be read, or changed while they were read, and
-- otherwise for the names that the arguments give them.
abbrev pub kind_of_stop : BuildError → Kind
kind_of_stop stop.OutOfMemory = OutOfMemory
kind_of_stop (stop.Items item cause) = kind_or_memory Input cause
kind_of_stop (stop.Name item cause) = kind_or_memory Arguments cause
kind_of_stop (stop.Unacceptable item name) = Arguments
kind_of_stop (stop.Twice first second name) = Arguments
kind_of_stop (stop.FileAndFolder file within name) = Arguments
kind_of_stop (stop.Renamed item) = Input
kind_of_stop (stop.Failed item name cause) = kind_of_cause cause

-- the name of a path in messages: `-` is standard input
abbrev pub shown_path : List ℕ → List ℕ
shown_path path = if bytes_eq path (codes "-") then codes "<stdin>" else path
