-- The data of templates. A number is in the range if it is a 64-bit integer, signed or unsigned. serde_json stores any other
-- number as a float.
use Rattle.std.specs.Prelude.{◌≡◌, true, false, Result, Ok, Err}
use Rattle.serde_json.specs.Data.{Data}
use Rattle.serde_json.specs.View.{view}
use Rattle.serde_json.specs.Written.{has_float}
use Rattle.handlebars_base.specs.Reasons.{invalid_number}
use Rattle.handlebars_base.specs.RenderRefusals.{refusal_of, plain_refusal}
use Rattle.handlebars_base.specs.declared.error.render_error.RenderError.{RenderError}
use Rattle.handlebars_scope.specs.declared.context.Context.{Context}

-- what a context holds
abbrev pub data_of : Context → Data
data_of c = view c.value

-- the call succeeds if all numbers are in the range, and otherwise fails with `invalid_number`
abbrev pub TestsRange : {A : Type 0} → Data → Result A RenderError → Type 0
TestsRange d (Ok x) = has_float d ≡ false
TestsRange d (Err e) = (has_float d ≡ true) × (refusal_of e ≡ plain_refusal invalid_number)
