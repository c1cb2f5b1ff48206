-- The expressions of blocks: what is read is one, and there is no other.
use Rattle.std.proofs.Common.{◌≡◌, ℕ, sym, ap, subst, ◌∙◌}
use Rattle.handlebars_base.specs.Bytes.{Text}
use Rattle.handlebars_expressions.specs.Parameter.{Term, Terms}
use Rattle.handlebars_expressions.specs.Expression.{NameMode, Expression, in_block, IsExpression, NoExpression}
use Rattle.handlebars_expressions.specs.Binding.{BoundNames, IsBinding, NoBinding}
use Rattle.handlebars_expressions.proofs.Expressions.{one_expression}
use Rattle.handlebars_expressions.proofs.Bindings.{one_binding}
use Rattle.handlebars_lexer.specs.Tag.{BlockExpression, IsBlockExpression}
use Rattle.handlebars_lexer.specs.TagView.{NoBlockExpression}

-- ---- what is read is one

pub block_expression-is : (mode : NameMode) (t left rest : Text) (expression : Expression) (binding : BoundNames) → IsExpression mode in_block t expression left → IsBinding left binding rest
    → IsBlockExpression mode t (record { name = expression.name; terms = expression.terms; binding = binding; depth = expression.depth }) rest
block_expression-is mode t left rest expression binding is binds = record { after = left; is_expression = is; binds = binds }

-- ---- if none is read, there is none

pub none-expression : (mode : NameMode) (t : Text) → NoExpression mode in_block t → NoBlockExpression mode t
none-expression mode t none expression rest h = none _ h.after h.is_expression

pub none-binding : (mode : NameMode) (t left : Text) (expression : Expression) → IsExpression mode in_block t expression left → NoBinding left → NoBlockExpression mode t
none-binding mode t left expression is none means rest h =
    let one = one_expression mode in_block t expression _ left h.after is h.is_expression in
    none means.binding rest (subst (λ (z : Text). IsBinding z means.binding rest) (sym one.1) h.binds)

-- ---- it is unique

abbrev made : Term → Terms → BoundNames → ℕ → BlockExpression
made name terms binding depth = record { name = name; terms = terms; binding = binding; depth = depth }

pub one_block_expression : (mode : NameMode) (t : Text) (a b : BlockExpression) (rest rest' : Text) → IsBlockExpression mode t a rest → IsBlockExpression mode t b rest' → (a ≡ b) × (rest ≡ rest')
one_block_expression mode t a b rest rest' h k =
    let one = one_expression mode in_block t _ _ h.after k.after h.is_expression k.is_expression in
    let binds = one_binding k.after a.binding b.binding rest rest' (subst (λ (z : Text). IsBinding z a.binding rest) one.1 h.binds) k.binds in
    let names : a.name ≡ b.name = ap (λ (z : Expression). z.name) one.0 in
    let terms : a.terms ≡ b.terms = ap (λ (z : Expression). z.terms) one.0 in
    let depths : a.depth ≡ b.depth = ap (λ (z : Expression). z.depth) one.0 in
    (same_block a b names terms binds.0 depths, binds.1)
  where
    same_block : (a b : BlockExpression) → a.name ≡ b.name → a.terms ≡ b.terms → a.binding ≡ b.binding → a.depth ≡ b.depth → a ≡ b
    same_block a b n t d h =
        ap (λ (z : Term). made z a.terms a.binding a.depth) n ∙ ap (λ (z : Terms). made b.name z a.binding a.depth) t ∙ ap (λ (z : BoundNames). made b.name b.terms z a.depth) d
        ∙ ap (λ (z : ℕ). made b.name b.terms b.binding z) h
