-- What the errors of templates represent.
use Rattle.std.specs.Prelude.{ℕ, Option, Some, None, option_map, string_bytes}
use Rattle.handlebars_base.specs.Bytes.{Text}
use Rattle.handlebars_base.specs.Reasons.{TemplateReason, TemplateRefusal, mismatching_closed_helper, mismatching_closed_decorator, invalid_syntax, invalid_param, nested_subexpression, template_io_error, walkdir_error, template_out_of_memory}
use Rattle.handlebars_base.specs.declared.error.template_error.TemplateError.{TemplateError}
use Rattle.handlebars_base.specs.declared.error.template_error.TemplateErrorReason.{TemplateErrorReason}
use Rattle.handlebars_base.specs.declared.error.template_error.TemplateErrorReason.TheVariants.{MismatchingClosedHelper, MismatchingClosedDecorator, InvalidSyntax, InvalidParam, NestedSubexpression, IoError, WalkdirError, OutOfMemory}

abbrev pub template_reason_of : TemplateErrorReason → TemplateReason
template_reason_of (MismatchingClosedHelper a b) = mismatching_closed_helper (string_bytes a) (string_bytes b)
template_reason_of (MismatchingClosedDecorator a b) = mismatching_closed_decorator (string_bytes a) (string_bytes b)
template_reason_of (InvalidSyntax a) = invalid_syntax (string_bytes a)
template_reason_of (InvalidParam a) = invalid_param (string_bytes a)
template_reason_of NestedSubexpression = nested_subexpression
template_reason_of (IoError e name) = template_io_error (string_bytes name)
template_reason_of (WalkdirError a) = walkdir_error (string_bytes a)
template_reason_of OutOfMemory = template_out_of_memory

-- the reason itself, including a cause that comes from outside
abbrev pub template_cause_of : TemplateError → TemplateErrorReason
template_cause_of e = e.reason

-- the lines of the source that it shows, if any
abbrev pub shown_lines : TemplateError → Option Text
shown_lines e = option_map string_bytes e.segment

-- a line and a column, if both are known
abbrev pub zip_some : Option ℕ → Option ℕ → Option (ℕ × ℕ)
zip_some None y = None
zip_some (Some x) None = None
zip_some (Some x) (Some y) = Some (x, y)

abbrev pub template_refusal_of : TemplateError → TemplateRefusal
template_refusal_of e = record {
  reason = template_reason_of e.reason;
  name = option_map string_bytes e.template_name;
  position = zip_some e.line_no e.column_no;
}
