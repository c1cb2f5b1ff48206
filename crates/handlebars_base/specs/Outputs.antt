-- What an output holds after a write, and the reason that a failed write becomes.
use Rattle.std.specs.Prelude.{◌≡◌, ℕ, ◌+◌, ◌^◌, ◌<◌, [], ◌++◌, length, Result, Ok, Err, string_bytes}
use Rattle.std.specs.declared.io.Error.{Error}
use Rattle.std.specs.declared.io.ErrorKind.{ErrorKind}
use Rattle.std.specs.declared.io.ErrorKind.TheVariants.{OutOfMemory}
use Rattle.handlebars_base.specs.Bytes.{Text}
use Rattle.handlebars_base.specs.Reasons.{Reason, io_error, out_of_memory}
use Rattle.handlebars_base.specs.declared.output.StringOutput.{StringOutput}

-- what an output holds: its text, and how many of its writes have failed
pub record Held : Type 0 where
  pub text : Text
  pub write_errors : ℕ

-- what a new output holds
abbrev pub empty_output : Held
empty_output = record { text = []; write_errors = 0 }

-- a prefix of a text, which may be empty or all of it
abbrev pub IsPrefix : Text → Text → Type 0
IsPrefix prefix t = (rest : Text) × (t ≡ prefix ++ rest)

-- the whole text is appended to what was there
pub record IsWhole (t : Text) (before after : Held) : Type 0 where
  pub text : after.text ≡ before.text ++ t
  pub write_errors : after.write_errors ≡ before.write_errors

-- A prefix of the text is appended, and the write has failed. The failure is counted, as far as 64 bits can count. Writing
-- nothing never fails.
pub record IsWrittenInPart (t : Text) (before after : Held) : Type 0 where
  pub some : 0 < length t
  pub prefix : Text
  pub is_prefix : IsPrefix prefix t
  pub text : after.text ≡ before.text ++ prefix
  pub write_errors : before.write_errors + 1 < 2 ^ 64 → after.write_errors ≡ before.write_errors + 1

abbrev pub Written : Text → Held → Result (Unit {0}) Error → Held → Type 0
Written t before (Ok u) after = IsWhole t before after
Written t before (Err e) after = IsWrittenInPart t before after

-- what an output in memory holds
abbrev pub held_of : StringOutput → Held
held_of o = record { text = string_bytes o.text; write_errors = o.write_errors }

-- the reason of a rendering whose write failed: out of memory stays out of memory, and any other error is an I/O error
abbrev pub write_reason : ErrorKind → Reason
write_reason OutOfMemory = out_of_memory
write_reason kind = io_error kind
