-- The data that is read from what serde writes of a value.
use Rattle.std.specs.Prelude.{◌≡◌, ◌⊎◌, [], Some}
use Rattle.serde.specs.Event.{Log}
use Rattle.serde_json.specs.Data.{Data, null}
use Rattle.serde_json.specs.Read.{read}
use Rattle.serde_json.specs.Sent.{IsTextOf}
use Rattle.handlebars_base.specs.Bytes.{Text}

-- the value may be written as a JSON text from which this data is read
pub record IsWrittenAs {T : Type 0} (writes : T → Log → Log → Type 0) (x : T) (d : Data) : Type 0 where
  pub log : Log
  pub text : Text
  pub written : writes x (Some []) log
  pub is_text : IsTextOf log text
  pub is_read : read text ≡ Some d

-- Such data, or null. It is null for a value that is written as a text that isn't read, for example because it nests too
-- deep, and for a value that serde_json fails to write for the value's own reasons, which are not specified here.
abbrev pub IsConverted : {T : Type 0} → (T → Log → Log → Type 0) → T → Data → Type 0
IsConverted writes x d = IsWrittenAs writes x d ⊎ (d ≡ null)
