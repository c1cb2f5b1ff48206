-- The codes of problems.
use Rattle.std.specs.Prelude.{Bool, true, false, if◌then◌else◌, bytes_eq, codes}
use Rattle.handlebars_base.specs.Bytes.{Text}
use Rattle.handlebars_base.specs.Reasons.{TemplateReason, mismatching_closed_helper, mismatching_closed_decorator, invalid_syntax, invalid_param, nested_subexpression, template_io_error, walkdir_error, template_out_of_memory}
use Rattle.handlebars_syntax.specs.declared.problem.SyntaxCode.{SyntaxCode}
use Rattle.handlebars_syntax.specs.declared.problem.SyntaxCode.TheVariants.{UnreadableTag, UnexpectedTag, NestingTooDeep, BlockNotClosed, MismatchedClose, InvalidLiteral, InvalidTemplate}

-- the code of what the compiler says of a syntax error
abbrev pub syntax_code : Text → SyntaxCode
syntax_code text =
    if bytes_eq text (codes "unreadable tag") then UnreadableTag else
    if bytes_eq text (codes "unexpected tag") then UnexpectedTag else
    if bytes_eq text (codes "nesting too deep") then NestingTooDeep else
    if bytes_eq text (codes "block not closed") then BlockNotClosed else InvalidTemplate

-- The code of the reason why a source doesn't compile. A compilation has no reason of the last three.
abbrev pub code_of : TemplateReason → SyntaxCode
code_of (invalid_syntax text) = syntax_code text
code_of (mismatching_closed_helper opened closing) = MismatchedClose
code_of (mismatching_closed_decorator opened closing) = MismatchedClose
code_of (invalid_param literal) = InvalidLiteral
code_of nested_subexpression = InvalidTemplate
code_of (template_io_error file) = InvalidTemplate
code_of (walkdir_error text) = InvalidTemplate
code_of template_out_of_memory = InvalidTemplate

abbrev pub code_text : SyntaxCode → Text
code_text UnreadableTag = codes "unreadable-tag"
code_text UnexpectedTag = codes "unexpected-tag"
code_text NestingTooDeep = codes "nesting-too-deep"
code_text BlockNotClosed = codes "block-not-closed"
code_text MismatchedClose = codes "mismatched-close"
code_text InvalidLiteral = codes "invalid-literal"
code_text InvalidTemplate = codes "invalid-template"

-- The problem of this code is that of a whole tag.
abbrev pub is_of_tag : SyntaxCode → Bool
is_of_tag UnreadableTag = false
is_of_tag InvalidLiteral = false
is_of_tag code = true
