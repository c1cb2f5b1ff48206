use Rattle.std.proofs.Common.{sym, ◌∙◌, subst, arith}
use Rattle.serde_json.specs.View as json
use Rattle.handlebars_expressions.specs.LiteralView.{literal_token_of}
use Rattle.handlebars_template.specs.Tree.{Param}
use Rattle.handlebars_template.specs.ParameterParsing.{Parses, parsed}
use Rattle.handlebars_template.proofs.Levels.{param_view-Literal}
use Rattle.handlebars_template.proofs.ParametersParsed.{parses_prefix, parses_deep_literal, parses_literal, parses_worthless_literal}
use Rattle.handlebars_template.proofs.template.parameter.read_literal.Goals as goal

pub returns-then-not-is_empty : goal.returns-then-not-is_empty
returns-then-not-is_empty c closed h =
    parses_prefix c.args.text.now (literal_token_of c.args.token) closed h (sym c.is_empty.ensures ∙ c.if-not-is_empty.true)

pub returns-then-token-gt-MAX_NESTING : goal.returns-then-token-gt-MAX_NESTING
returns-then-token-gt-MAX_NESTING c closed h =
    parses_deep_literal c.args.text.now (literal_token_of c.args.token) h (sym c.is_empty.ensures ∙ c.if-not-is_empty.false) (omega (arith, c.if-token-gt-MAX_NESTING.true))

pub returns-in-Some : goal.returns-in-Some
returns-in-Some c closed h =
    subst (λ (p : Param). Parses c.args.text.now (parsed p)) (sym (param_view-Literal c.in-Some.value))
    (parses_literal c.args.text.now (literal_token_of c.args.token) (json.view c.in-Some.value) h (sym c.is_empty.ensures ∙ c.if-not-is_empty.false) (omega (arith, c.if-token-gt-MAX_NESTING.false)) (rw c.in-Some.is at c.in_ok-value.ensures))

pub returns-in-None : goal.returns-in-None
returns-in-None c closed h =
    parses_worthless_literal c.args.text.now (literal_token_of c.args.token) h (sym c.is_empty.ensures ∙ c.if-not-is_empty.false) (omega (arith, c.if-token-gt-MAX_NESTING.false)) (rw c.in-None.is at c.in_ok-value.ensures)
