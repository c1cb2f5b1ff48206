-- Why a template is rejected or a call fails: the reasons as plain data. Of a cause that comes from outside, a reason holds
-- only the system's error kind.
use Rattle.std.specs.Prelude.{ℕ, Option, None}
use Rattle.std.specs.declared.io.ErrorKind.{ErrorKind}
use Rattle.handlebars_base.specs.Bytes.{Text}

-- why a template is rejected
pub data TemplateReason : Type 0 where
  mismatching_closed_helper : Text → Text → TemplateReason
  mismatching_closed_decorator : Text → Text → TemplateReason
  invalid_syntax : Text → TemplateReason
  invalid_param : Text → TemplateReason
  nested_subexpression : TemplateReason
  template_io_error : Text → TemplateReason
  walkdir_error : Text → TemplateReason
  template_out_of_memory : TemplateReason

-- why a template is rejected, in which template, at which line and column
pub record TemplateRefusal : Type 0 where
  pub reason : TemplateReason
  pub name : Option Text
  pub position : Option (ℕ × ℕ)

-- why a call fails
pub data Reason : Type 0 where
  template_not_found : Text → Reason
  template_error : TemplateRefusal → Reason
  missing_variable : Option Text → Reason
  partial_not_found : Text → Reason
  partial_block_not_found : Reason
  helper_not_found : Text → Reason
  param_not_found_for_index : Text → ℕ → Reason
  param_not_found_for_name : Text → Text → Reason
  param_type_mismatch_for_name : Text → Text → Text → Reason
  hash_type_mismatch_for_name : Text → Text → Text → Reason
  decorator_not_found : Text → Reason
  cannot_include_self : Reason
  invalid_logging_level : Text → Reason
  invalid_param_type : Text → Reason
  block_content_required : Reason
  invalid_json_path : Text → Reason
  invalid_json_index : Text → Reason
  serde_error : Reason
  io_error : ErrorKind → Reason
  utf8_error : Reason
  nested_error : Text → Reason
  unimplemented : Reason
  other : Text → Reason
  inclusion_limit : ℕ → Reason
  invalid_number : Reason
  failed : Reason
  out_of_memory : Reason

-- The reason of a call that fails because of a template's error. If the template's reason is out of memory, so is this one.
abbrev pub reason_for : TemplateRefusal → TemplateReason → Reason
reason_for f (mismatching_closed_helper a b) = template_error f
reason_for f (mismatching_closed_decorator a b) = template_error f
reason_for f (invalid_syntax a) = template_error f
reason_for f (invalid_param a) = template_error f
reason_for f nested_subexpression = template_error f
reason_for f (template_io_error a) = template_error f
reason_for f (walkdir_error a) = template_error f
reason_for f template_out_of_memory = out_of_memory

abbrev pub of_template : TemplateRefusal → Reason
of_template f = reason_for f f.reason

-- where an error occurred, as far as it is known: in which template, at which line and column
pub record Location : Type 0 where
  pub name : Option Text
  pub line : Option ℕ
  pub column : Option ℕ

abbrev pub nowhere : Location
nowhere = record { name = None; line = None; column = None }

-- an error: why, and where
pub record Refusal : Type 0 where
  pub reason : Reason
  pub location : Location
