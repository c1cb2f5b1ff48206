-- What a boxed error represents.
use Rattle.std.specs.Prelude.{◌≡◌, ◌≢◌, None, Result, Ok, Err}
use Rattle.handlebars_base.specs.Reasons.{out_of_memory}
use Rattle.handlebars_base.specs.RenderRefusals.{reason_in, location_of, cause_of}
use Rattle.handlebars_base.specs.declared.error.render_error.RenderError.{RenderError}
use Rattle.handlebars_base.specs.declared.error.render_error.RenderErrorReason.TheVariants as reasons
use Rattle.handlebars_expand.specs.declared.boxed.BoxedError.{BoxedError}
use Rattle.handlebars_expand.specs.declared.boxed.BoxedError.TheVariants.{OutOfMemory, Error}

-- the error in the box, or out of memory
abbrev pub error_of : BoxedError → RenderError
error_of OutOfMemory = record { template_name = None; line_no = None; column_no = None; reason = reasons.OutOfMemory }
error_of (Error e) = e.value

-- the result of a call, with its error unboxed
abbrev pub answer_of : {T : Type 0} → Result T BoxedError → Result T RenderError
answer_of (Ok x) = Ok x
answer_of (Err e) = Err (error_of e)

-- The second error is the first one, or out of memory.
pub record IsPropagated (e d : RenderError) : Type 0 where
  pub location : reason_in d ≢ out_of_memory → location_of d ≡ location_of e
  pub cause : reason_in d ≢ out_of_memory → cause_of d ≡ cause_of e
  pub memory : reason_in e ≡ out_of_memory → reason_in d ≡ out_of_memory
