-- Laws of literals.
use Rattle.std.specs.Prelude.{◌≡◌, ◌≢◌, None}
use Rattle.handlebars_base.specs.Bytes.{Text}
use Rattle.handlebars_expressions.specs.Literal.{Literal, spelled_literal, literal_depth, numbers_in_range, IsLiteral, IsLiteralAt}
use Rattle.handlebars_expressions.specs.LiteralReading.{LiteralToken}
use Rattle.handlebars_expressions.specs.LiteralValue.{literal_value}
use Rattle.handlebars_expressions.specs.LiteralValueReading.{literal_value_of}

-- The token is that of a literal at the start of the text.
pub record HasLiteral (text : Text) (token : LiteralToken) : Type 0 where
  pub literal : Literal
  pub is : IsLiteralAt text literal token.rest
  pub raw : token.raw ≡ spelled_literal literal
  pub depth : token.depth ≡ literal_depth literal
  pub in_range : token.in_range ≡ numbers_in_range literal

-- no literal is at the start
abbrev pub NoLiteral : Text → Type 0
NoLiteral text = (token : LiteralToken) → HasLiteral text token → ⊥

-- a text has at most one literal at its start
abbrev pub OneLiteral : Type 0
OneLiteral = (text : Text) (a b : LiteralToken) → HasLiteral text a → HasLiteral text b → a ≡ b

-- The value that is read from a literal's text is the value of the literal.
abbrev pub ValueOfLiteral : Type 0
ValueOfLiteral = (l : Literal) → IsLiteral l → literal_value_of (spelled_literal l) ≡ literal_value l

-- No value is read from a text that is no literal.
abbrev pub ValueOfOther : Type 0
ValueOfOther = (text : Text) → ((l : Literal) → IsLiteral l → text ≢ spelled_literal l) → literal_value_of text ≡ None
