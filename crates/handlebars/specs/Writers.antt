-- What outputs to a writer hold, and what the writer of a text stores.
use Rattle.std.specs.Prelude.{◌≡◌, ℕ, ◌++◌, [], take, cond, Option, Result, Ok, Err}
use Rattle.std.specs.Io.KnownBytes.{Appends}
use Rattle.std.specs.Str.{is_utf8}
use Rattle.std.specs.declared.io.Error.{Error}
use Rattle.handlebars_base.specs.Bytes.{Text}
use Rattle.handlebars_base.specs.Outputs.{Held}
use Rattle.handlebars.specs.declared.output.WriteOutput.{WriteOutput}
use Rattle.handlebars.specs.declared.output.named.NamedOutput.{NamedOutput}
use Rattle.handlebars.specs.declared.output.string_writer.StringWriter.{StringWriter}

-- what one write takes of the bytes that it is given
abbrev pub taken_of : Text → Result ℕ Error → Text
taken_of bytes (Ok n) = take n bytes
taken_of bytes (Err e) = []

module _ {W : Type 0} where
  -- An output holds what its writer has taken of it, and counts its write errors.
  abbrev pub held_by : WriteOutput W → Held
  held_by o = record { text = o.taken.text; write_errors = o.write_errors }

-- A writer has taken a text after another, and reports it if it reported what it held before.
pub record TakesText (t : Text) (before : Option Text) (taken : Text) (after : Option Text) (now : Text) : Type 0 where
  pub text : now ≡ taken ++ t
  pub reported : Appends before after t

abbrev pub held_by_output : {W K : Type 0} {w : _} {k : _} → NamedOutput W K w k → Held
held_by_output o = record { text = o.taken.text; write_errors = o.write_errors }

-- the bytes that a writer of a text stores
abbrev pub bytes_in : StringWriter → Text
bytes_in w = w.bytes.items

-- the bytes, if they are UTF-8, and otherwise none
abbrev pub utf8_or_empty : Text → Text
utf8_or_empty bytes = cond (is_utf8 bytes) bytes []
