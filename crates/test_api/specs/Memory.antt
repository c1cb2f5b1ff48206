-- The answers of a reader over memory.
use Rattle.std.specs.BTreeMap.{BTreeMap, get_by_text}
use Rattle.std.specs.Global.{Global}
use Rattle.std.specs.IoError.{error_kind}
use Rattle.std.specs.Prelude.{◌≡◌, ◌≢◌, Option, None, Some, option_map, Result, Ok, Err, String, string_bytes}
use Rattle.std.specs.declared.io.Error.{Error}
use Rattle.std.specs.declared.io.ErrorKind.TheVariants.{NotFound, OutOfMemory}
use Rattle.handlebars_base.specs.Bytes.{Text}

-- the text under a path, if there is one
abbrev pub text_at : BTreeMap (String Global) (String Global) → Text → Option Text
text_at texts path = option_map string_bytes (get_by_text texts path)

-- The reader returns the stored text, or fails with `NotFound` because there is none. It may also run out of memory.
abbrev pub ReadsStored : Option Text → Result (String Global) Error → Type 0
ReadsStored there (Ok text) = there ≡ Some (string_bytes text)
ReadsStored there (Err e) = error_kind e ≢ OutOfMemory → (there ≡ None) × (error_kind e ≡ NotFound)
