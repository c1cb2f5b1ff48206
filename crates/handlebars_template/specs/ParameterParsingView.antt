-- What the code reads a parameter as, and which texts it takes for an expression in parentheses.
use Rattle.std.specs.Prelude.{◌≡◌, ℕ, [], Some}
use Rattle.handlebars_base.specs.Bytes.{Text, after_white}
use Rattle.handlebars_base.specs.Texts.{after_byte}
use Rattle.handlebars_expressions.specs.Parameter.{left_parenthesis, right_parenthesis, NoParameter}
use Rattle.handlebars_expressions.specs.Expression.{value_name, in_parentheses}
use Rattle.handlebars_expressions.specs.ExpressionLaws.{HasExpression}
use Rattle.handlebars_template.specs.TreeView.{param_view}
use Rattle.handlebars_template.specs.Calls.{invalid}
use Rattle.handlebars_template.specs.ParameterParsing.{Parsing, parsed, rejected}
use Rattle.handlebars_template.specs.declared.template.parameter.Reading.{Reading}
use Rattle.handlebars_template.specs.declared.template.parameter.Reading.TheVariants.{Reads, Rejects}

abbrev pub reading_view : Reading → Parsing
reading_view (Reads p) = parsed (param_view p)
reading_view (Rejects raw) = rejected (invalid raw.now)

-- After an opening parenthesis follow an expression of this depth and the parenthesis that closes it, and nothing else.
pub record HasNested (inside : Text) (depth : ℕ) : Type 0 where
  pub left : Text
  pub expression : HasExpression value_name in_parentheses (after_white inside) depth left
  pub closes : after_byte right_parenthesis (after_white left) ≡ Some []

abbrev pub NoNested : Text → Type 0
NoNested inside = (text : Text) → after_byte left_parenthesis text ≡ Some inside → NoParameter text
