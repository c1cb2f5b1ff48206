-- Laws of expressions and of parameters.
use Rattle.std.specs.Prelude.{◌≡◌, ℕ}
use Rattle.handlebars_base.specs.Bytes.{Text}
use Rattle.handlebars_expressions.specs.Parameter.{Term, IsParameter}
use Rattle.handlebars_expressions.specs.Expression.{NameMode, Enclosure, Expression, IsExpression}

-- An expression of this depth is at the start of the text, with this rest after it.
pub record HasExpression (mode : NameMode) (around : Enclosure) (text : Text) (depth : ℕ) (rest : Text) : Type 0 where
  pub expression : Expression
  pub is : IsExpression mode around text expression rest
  pub deep : expression.depth ≡ depth

-- a text has at most one expression at its start, with one rest after it
abbrev pub OneExpression : Type 0
OneExpression = (mode : NameMode) (around : Enclosure) (text : Text) (a b : Expression) (left left' : Text) →
    IsExpression mode around text a left → IsExpression mode around text b left' → (a ≡ b) × (left ≡ left')

-- a text means at most one parameter, with one depth
abbrev pub OneParameter : Type 0
OneParameter = (text : Text) (a b : Term) (depth depth' : ℕ) →
    IsParameter text a depth → IsParameter text b depth' → (a ≡ b) × (depth ≡ depth')
