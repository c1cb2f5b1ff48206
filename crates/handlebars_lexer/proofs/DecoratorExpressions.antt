-- The expressions of decorators: if none is read, there is none.
use Rattle.std.proofs.Common.{◌≡◌, ◌≢◌, sym, ap, ◌∙◌}
use denote.Ref.{Bor}
use Rattle.handlebars_base.specs.Bytes.{Text}
use Rattle.handlebars_expressions.specs.Binding.{unbound, bound, both_bound}
use Rattle.handlebars_expressions.specs.Expression.{identifier_name}
use Rattle.handlebars_expressions.specs.BindingView.{bound_names_of}
use Rattle.handlebars_expressions.specs.declared.binding.BoundNames.TheVariants.{Bound, BothBound}
use Rattle.handlebars_lexer.specs.Tag.{BlockExpression, IsDecoratorExpression}
use Rattle.handlebars_lexer.specs.TagView.{NoBlockExpression, HasBlock}
use Rattle.handlebars_lexer.specs.declared.tag.inside.BlockRead.{BlockRead}
use Rattle.handlebars_lexer.proofs.BlockExpressions.{one_block_expression}

abbrev pub NoDecoratorExpression : Text → Type 0
NoDecoratorExpression t = (expression : BlockExpression) (rest : Text) → IsDecoratorExpression t expression rest → ⊥

pub no_expression : (t : Text) → NoBlockExpression identifier_name t → NoDecoratorExpression t
no_expression t none expression rest h = none expression rest h.is_expression

binds_some : (t : Text) (read : BlockRead) → HasBlock identifier_name t read → bound_names_of read.token.binding ≢ unbound → NoDecoratorExpression t
binds_some t read has some expression rest h =
    some (sym has.is_token.is_binding ∙ ap (λ (z : BlockExpression). z.binding) (one_block_expression identifier_name t has.expression expression read.rest.now rest has.is_expression h.is_expression).0 ∙ h.binds_none)

pub binds_one : (t : Text) (read : BlockRead) (x : Bor Text) → HasBlock identifier_name t read → read.token.binding ≡ Bound x → NoDecoratorExpression t
binds_one t read x has is = binds_some t read has (λ e. let both : bound x.now ≡ unbound = ap bound_names_of (sym is) ∙ e in absurd cc)

pub binds_two : (t : Text) (read : BlockRead) (x y : Bor Text) → HasBlock identifier_name t read → read.token.binding ≡ BothBound x y → NoDecoratorExpression t
binds_two t read x y has is = binds_some t read has (λ e. let both : both_bound x.now y.now ≡ unbound = ap bound_names_of (sym is) ∙ e in absurd cc)
