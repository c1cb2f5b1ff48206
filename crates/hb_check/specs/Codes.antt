-- The kinds of problems, and which kind a fault is reported as.
use Rattle.std.specs.Prelude.{codes}
use Rattle.handlebars_base.specs.Bytes.{Text}
use Rattle.handlebars_names.specs.Faults.{Why, missing_helper, missing_params, made_name, other_decorator, unnamed_inline, empty_inline, missing_partial, includes_itself, missing_block, named_body}
use Rattle.handlebars_report.specs.declared.problem.Severity.{Severity}
use Rattle.handlebars_report.specs.declared.problem.Severity.TheVariants.{Error, Warning}
use Rattle.hb_check.specs.declared.code.Code.{Code}
use Rattle.hb_check.specs.declared.code.Code.TheVariants as code

abbrev pub code_text : Code → Text
code_text code.UnknownHelper = codes "unknown-helper"
code_text code.MissingParameter = codes "missing-parameter"
code_text code.ComputedName = codes "computed-name"
code_text code.UnknownDecorator = codes "unknown-decorator"
code_text code.UnnamedInline = codes "unnamed-inline"
code_text code.EmptyInline = codes "empty-inline"
code_text code.UnknownPartial = codes "unknown-partial"
code_text code.IncludesItself = codes "includes-itself"
code_text code.MissingBlock = codes "missing-block"
code_text code.NamedBody = codes "named-body"
code_text code.HiddenName = codes "hidden-name"
code_text code.UnusedTemplate = codes "unused-template"
code_text code.NamesUndecided = codes "names-undecided"
code_text code.Markup = codes "markup"
code_text code.Html = codes "html"
code_text code.HtmlUndecided = codes "html-undecided"

-- what a fault of names is reported as
abbrev pub code_of_why : Why → Code
code_of_why (missing_helper n) = code.UnknownHelper
code_of_why (missing_params n needed) = code.MissingParameter
code_of_why made_name = code.ComputedName
code_of_why (other_decorator n) = code.UnknownDecorator
code_of_why unnamed_inline = code.UnnamedInline
code_of_why (empty_inline n) = code.EmptyInline
code_of_why (missing_partial n) = code.UnknownPartial
code_of_why (includes_itself n) = code.IncludesItself
code_of_why missing_block = code.MissingBlock
code_of_why (named_body n) = code.NamedBody

-- A name that is computed may stand for something, and what it stands for can't be checked. Any other fault is an error.
abbrev pub severity_of_why : Why → Severity
severity_of_why made_name = Warning
severity_of_why _ = Error
