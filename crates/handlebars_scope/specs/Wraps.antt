-- The data of a context that is created from any value that serde writes.
use Rattle.std.specs.Prelude.{◌≡◌, ◌⊎◌, true, false}
use Rattle.serde.specs.Event.{Log}
use Rattle.serde_json.specs.Data.{Data}
use Rattle.serde_json.specs.Written.{has_float}
use Rattle.handlebars_base.specs.Reasons.{serde_error, invalid_number}
use Rattle.handlebars_base.specs.Answers.{Answer, gives, fails}
use Rattle.handlebars_base.specs.RenderRefusals.{plain_refusal}
use Rattle.handlebars_base.specs.Written.{IsWrittenAs}

-- the value may be written with a number outside the range
abbrev pub MayLeaveRange : {T : Type 0} → (T → Log → Log → Type 0) → T → Type 0
MayLeaveRange writes x = (d : Data) × IsWrittenAs writes x d × (has_float d ≡ true)

-- The conversion gives data whose numbers are in the range. serde_json may fail to write a value for the value's own
-- reasons, which are not specified here.
abbrev pub IsConversion : {T : Type 0} → (T → Log → Log → Type 0) → T → Answer Data → Type 0
IsConversion writes x (gives d) = IsWrittenAs writes x d × (has_float d ≡ false)
IsConversion writes x (fails r) =
    (r ≡ plain_refusal serde_error) ⊎ ((r ≡ plain_refusal invalid_number) × MayLeaveRange writes x)
