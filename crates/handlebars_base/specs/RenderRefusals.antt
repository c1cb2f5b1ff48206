-- What the errors of rendering represent.
use Rattle.std.specs.Prelude.{ℕ, Option, Some, None, option_map, Result, Ok, Err, string_bytes}
use Rattle.std.specs.IoError.{error_kind}
use Rattle.std.specs.Option.{option_or}
use Rattle.std.specs.declared.alloc.AllocError.{AllocError}
use Rattle.handlebars_base.specs.Bytes.{Text}
use Rattle.handlebars_base.specs.Reasons.{Reason, Location, nowhere, Refusal, TemplateRefusal, template_not_found, of_template, missing_variable, partial_not_found, partial_block_not_found, helper_not_found, param_not_found_for_index, param_not_found_for_name, param_type_mismatch_for_name, hash_type_mismatch_for_name, decorator_not_found, cannot_include_self, invalid_logging_level, invalid_param_type, block_content_required, invalid_json_path, invalid_json_index, serde_error, io_error, utf8_error, nested_error, unimplemented, other, inclusion_limit, invalid_number, failed, out_of_memory}
use Rattle.handlebars_base.specs.TemplateRefusals.{template_refusal_of}
use Rattle.handlebars_base.specs.declared.error.render_error.RenderError.{RenderError}
use Rattle.handlebars_base.specs.declared.error.render_error.RenderErrorReason.{RenderErrorReason}
use Rattle.handlebars_base.specs.declared.error.render_error.RenderErrorReason.TheVariants.{TemplateNotFound, TemplateError, MissingVariable, PartialNotFound, PartialBlockNotFound, HelperNotFound, ParamNotFoundForIndex, ParamNotFoundForName, ParamTypeMismatchForName, HashTypeMismatchForName, DecoratorNotFound, CannotIncludeSelf, InvalidLoggingLevel, InvalidParamType, BlockContentRequired, InvalidJsonPath, InvalidJsonIndex, SerdeError, IOError, Utf8Error, NestedError, Unimplemented, Other, InclusionLimit, InvalidNumber, Failed, OutOfMemory}

abbrev pub reason_of : RenderErrorReason → Reason
reason_of (TemplateNotFound a) = template_not_found (string_bytes a)
reason_of (TemplateError e) = of_template (template_refusal_of e)
reason_of (MissingVariable a) = missing_variable (option_map string_bytes a)
reason_of (PartialNotFound a) = partial_not_found (string_bytes a)
reason_of PartialBlockNotFound = partial_block_not_found
reason_of (HelperNotFound a) = helper_not_found (string_bytes a)
reason_of (ParamNotFoundForIndex h n) = param_not_found_for_index h.now n
reason_of (ParamNotFoundForName h a) = param_not_found_for_name h.now (string_bytes a)
reason_of (ParamTypeMismatchForName h a b) = param_type_mismatch_for_name h.now (string_bytes a) (string_bytes b)
reason_of (HashTypeMismatchForName h a b) = hash_type_mismatch_for_name h.now (string_bytes a) (string_bytes b)
reason_of (DecoratorNotFound a) = decorator_not_found (string_bytes a)
reason_of CannotIncludeSelf = cannot_include_self
reason_of (InvalidLoggingLevel a) = invalid_logging_level (string_bytes a)
reason_of (InvalidParamType a) = invalid_param_type a.now
reason_of BlockContentRequired = block_content_required
reason_of (InvalidJsonPath a) = invalid_json_path (string_bytes a)
reason_of (InvalidJsonIndex a) = invalid_json_index (string_bytes a)
reason_of (SerdeError e) = serde_error
reason_of (IOError e) = io_error (error_kind e)
reason_of (Utf8Error e) = utf8_error
reason_of (NestedError a) = nested_error (string_bytes a)
reason_of Unimplemented = unimplemented
reason_of (Other a) = other (string_bytes a)
reason_of (InclusionLimit n) = inclusion_limit n
reason_of InvalidNumber = invalid_number
reason_of Failed = failed
reason_of OutOfMemory = out_of_memory

-- a reason, or out of memory
abbrev pub reason_or_memory : Result RenderErrorReason AllocError → Reason
reason_or_memory (Ok r) = reason_of r
reason_or_memory (Err e) = out_of_memory

-- the reason itself, including a cause that comes from outside
abbrev pub cause_of : RenderError → RenderErrorReason
cause_of e = e.reason

-- the template's error that a reason holds
abbrev pub refusal_within : RenderErrorReason → Option TemplateRefusal
refusal_within (TemplateError e) = Some (template_refusal_of e)
refusal_within r = None

abbrev pub reason_in : RenderError → Reason
reason_in e = reason_of e.reason

abbrev pub location_of : RenderError → Location
location_of e = record { name = option_map string_bytes e.template_name; line = e.line_no; column = e.column_no }

abbrev pub refusal_of : RenderError → Refusal
refusal_of e = record { reason = reason_in e; location = location_of e }

-- an error with no template and no position yet
abbrev pub plain_refusal : Reason → Refusal
plain_refusal r = record { reason = r; location = nowhere }

-- the name of the innermost template that has one
abbrev pub name_if_none : Text → Location → Location
name_if_none n s = record s { name = option_or s.name (Some n) }

abbrev pub position_unless_known : Location → Option ℕ → ℕ → ℕ → Location
position_unless_known s None line column = record s { line = Some line; column = Some column }
position_unless_known s (Some l) line column = s

-- The position of the innermost element that has one. If no line is known yet, line and column are set.
abbrev pub position_if_none : ℕ → ℕ → Location → Location
position_if_none line column s = position_unless_known s s.line line column
