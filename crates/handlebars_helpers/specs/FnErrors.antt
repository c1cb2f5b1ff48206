-- What the errors of functions stand for.
use Rattle.std.specs.IoError.{error_kind}
use Rattle.std.specs.Prelude.{option_map, string_bytes}
use Rattle.handlebars_base.specs.Reasons.{Reason, of_template, template_not_found, missing_variable, partial_not_found, partial_block_not_found, helper_not_found, decorator_not_found, cannot_include_self, invalid_logging_level, block_content_required, invalid_json_path, invalid_json_index, serde_error, io_error, utf8_error, nested_error, unimplemented, other, inclusion_limit, invalid_number, failed, out_of_memory}
use Rattle.handlebars_base.specs.TemplateRefusals.{template_refusal_of}
use Rattle.handlebars_helpers.specs.declared.fn_error.FnError.{FnError}
use Rattle.handlebars_helpers.specs.declared.fn_error.FnError.TheVariants.{TemplateNotFound, TemplateError, MissingVariable, PartialNotFound, PartialBlockNotFound, HelperNotFound, DecoratorNotFound, CannotIncludeSelf, InvalidLoggingLevel, BlockContentRequired, InvalidJsonPath, InvalidJsonIndex, SerdeError, IOError, Utf8Error, NestedError, Unimplemented, Other, InclusionLimit, InvalidNumber, Failed, OutOfMemory}

abbrev pub fn_reason : FnError → Reason
fn_reason (TemplateNotFound name) = template_not_found (string_bytes name)
fn_reason (TemplateError cause) = of_template (template_refusal_of cause)
fn_reason (MissingVariable path) = missing_variable (option_map string_bytes path)
fn_reason (PartialNotFound name) = partial_not_found (string_bytes name)
fn_reason PartialBlockNotFound = partial_block_not_found
fn_reason (HelperNotFound name) = helper_not_found (string_bytes name)
fn_reason (DecoratorNotFound name) = decorator_not_found (string_bytes name)
fn_reason CannotIncludeSelf = cannot_include_self
fn_reason (InvalidLoggingLevel level) = invalid_logging_level (string_bytes level)
fn_reason BlockContentRequired = block_content_required
fn_reason (InvalidJsonPath path) = invalid_json_path (string_bytes path)
fn_reason (InvalidJsonIndex index) = invalid_json_index (string_bytes index)
fn_reason (SerdeError cause) = serde_error
fn_reason (IOError cause) = io_error (error_kind cause)
fn_reason (Utf8Error cause) = utf8_error
fn_reason (NestedError cause) = nested_error (string_bytes cause)
fn_reason Unimplemented = unimplemented
fn_reason (Other text) = other (string_bytes text)
fn_reason (InclusionLimit limit) = inclusion_limit limit
fn_reason InvalidNumber = invalid_number
fn_reason Failed = failed
fn_reason OutOfMemory = out_of_memory
