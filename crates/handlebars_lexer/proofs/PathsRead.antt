-- Paths that are alone in the tags of values.
use Rattle.std.proofs.Common.{◌≡◌, ◌∙◌, true, Option, Some, None, refl, sym, ap}
use Rattle.std.specs.Option.{MatchOption}
use Rattle.handlebars_base.specs.Bytes.{Text}
use Rattle.handlebars_base.specs.Path.{IsIdentifier}
use Rattle.handlebars_expressions.specs.Alone.{IsAlone}
use Rattle.handlebars_expressions.specs.Expression.{value_name, Expression, in_tag}
use Rattle.handlebars_expressions.specs.Parameter.{path_term, no_terms}
use Rattle.handlebars_expressions.proofs.Alone.{alone_expression}
use Rattle.handlebars_lexer.specs.Kind.{TagKind, escaped_kind, html_kind, html_sign_kind, block_kind, close_kind, inverse_kind, else_kind, raw_kind, raw_close_kind, decorator_kind, decorator_block_kind, partial_kind, partial_block_kind, comment_kind, closing_of}
use Rattle.handlebars_lexer.specs.Tag.{Tag, escaped_tag, html_tag, a_value, a_raw_value, a_signed_value}
use Rattle.handlebars_lexer.specs.TagView.{NoClosedExpression, NoneClosed, HoldsExpression, HoldsPath, HasClosing, HasClosedExpression, HasInside, value_tag, is_value_kind, is_escaped_kind}
use Rattle.handlebars_lexer.specs.declared.tag.inside.Inside.{Inside}
use Rattle.handlebars_lexer.specs.declared.tag.inside.PathToken.{PathToken}
use Rattle.handlebars_lexer.specs.declared.tag.inside.Content.TheVariants.{Path}
use Rattle.handlebars_lexer.proofs.Insides.{none-escaped_expression, none-html, none-html_sign}
use Rattle.handlebars_lexer.proofs.InsidesRead.{expression_is_read, expression_inside}

-- what is known of the path
pub record Alone (token : PathToken) (t left : Text) : Type 0 where
  pub is : IsAlone in_tag t token.raw.now left
  pub name : token.is_name ≡ true → IsIdentifier token.raw.now

holds_path : (of : Expression → Tag) (token : PathToken) (t left : Text) → Alone token t left → of ≡ value_tag token.is_escaped → (tag : Tag) → HoldsExpression value_name of t tag → HoldsPath token tag
holds_path of token t left alone same tag h = record {
  text = t;
  expression = h.expression;
  after = h.after;
  left = left;
  is_expression = h.is_expression;
  is_alone = alone.is;
  is_name = alone.name;
  gives = h.gives ∙ ap (λ (f : Expression → Tag). f h.expression) same;
}

closed_path : (k : TagKind) (token : PathToken) (t left : Text) (r : Option Inside) → Alone token t left → MatchOption r (closing_of k left ≡ None) (λ i. HasClosing k left (Path token) 0 i)
    → MatchOption r (NoClosedExpression k value_name t) (λ i. HasClosedExpression k value_name t (Path token) i)
closed_path k token t left r alone read =
    let expression : Expression = record { name = path_term alone.is.means; terms = no_terms; depth = 0 } in
    expression_is_read k value_name t left expression (Path token) 0 r (alone_expression in_tag t token.raw.now left alone.is) refl read

escaped_path : (token : PathToken) (t left : Text) (r : Option Inside) → Alone token t left → escaped_tag ≡ value_tag token.is_escaped
    → MatchOption r (NoClosedExpression escaped_kind value_name t) (λ i. HasClosedExpression escaped_kind value_name t (Path token) i) → MatchOption r (NoneClosed escaped_kind t) (λ i. HasInside escaped_kind t i)
escaped_path token t left None alone same none = none-escaped_expression t none
escaped_path token t left (Some i) alone same h = expression_inside escaped_kind value_name escaped_tag t (Path token) i (λ expression. refl) (λ expression rest is. a_value is) (holds_path escaped_tag token t left alone same) h

html_path : (token : PathToken) (t left : Text) (r : Option Inside) → Alone token t left → html_tag ≡ value_tag token.is_escaped
    → MatchOption r (NoClosedExpression html_kind value_name t) (λ i. HasClosedExpression html_kind value_name t (Path token) i) → MatchOption r (NoneClosed html_kind t) (λ i. HasInside html_kind t i)
html_path token t left None alone same none = none-html t none
html_path token t left (Some i) alone same h = expression_inside html_kind value_name html_tag t (Path token) i (λ expression. refl) (λ expression rest is. a_raw_value is) (holds_path html_tag token t left alone same) h

html_sign_path : (token : PathToken) (t left : Text) (r : Option Inside) → Alone token t left → html_tag ≡ value_tag token.is_escaped
    → MatchOption r (NoClosedExpression html_sign_kind value_name t) (λ i. HasClosedExpression html_sign_kind value_name t (Path token) i) → MatchOption r (NoneClosed html_sign_kind t) (λ i. HasInside html_sign_kind t i)
html_sign_path token t left None alone same none = none-html_sign t none
html_sign_path token t left (Some i) alone same h = expression_inside html_sign_kind value_name html_tag t (Path token) i (λ expression. refl) (λ expression rest is. a_signed_value is) (holds_path html_tag token t left alone same) h

pub path_read : (k : TagKind) (token : PathToken) (t left : Text) (r : Option Inside) → is_value_kind k ≡ true → token.is_escaped ≡ is_escaped_kind k → Alone token t left
    → MatchOption r (closing_of k left ≡ None) (λ i. HasClosing k left (Path token) 0 i) → MatchOption r (NoneClosed k t) (λ i. HasInside k t i)
path_read escaped_kind token t left r v e alone read = escaped_path token t left r alone (ap value_tag (sym e)) (closed_path escaped_kind token t left r alone read)
path_read html_kind token t left r v e alone read = html_path token t left r alone (ap value_tag (sym e)) (closed_path html_kind token t left r alone read)
path_read html_sign_kind token t left r v e alone read = html_sign_path token t left r alone (ap value_tag (sym e)) (closed_path html_sign_kind token t left r alone read)
path_read block_kind token t left r v e alone read = absurd cc
path_read close_kind token t left r v e alone read = absurd cc
path_read inverse_kind token t left r v e alone read = absurd cc
path_read else_kind token t left r v e alone read = absurd cc
path_read raw_kind token t left r v e alone read = absurd cc
path_read raw_close_kind token t left r v e alone read = absurd cc
path_read decorator_kind token t left r v e alone read = absurd cc
path_read decorator_block_kind token t left r v e alone read = absurd cc
path_read partial_kind token t left r v e alone read = absurd cc
path_read partial_block_kind token t left r v e alone read = absurd cc
path_read comment_kind token t left r v e alone read = absurd cc
