-- Parsing a text as a parameter: its one result, case by case.
use Rattle.std.proofs.Common.{◌≡◌, ◌∙◌, ℕ, suc, ◌<◌, ◌≤◌, [], ◌∷◌, length, Option, Some, None, refl, sym, ap, subst, arith}
use Rattle.std.proofs.lemmas.Bool.{eqb-true, eqb-false}
use Rattle.std.proofs.lemmas.Option.{same_Some, none-some}
use Rattle.std.specs.Prelude.{true, false, ◌==◌, option_map}
use Rattle.serde_json.specs.Data.{Data}
use Rattle.handlebars_base.specs.Bytes.{Text, after_white}
use Rattle.handlebars_base.specs.Path.{Reference}
use Rattle.handlebars_base.specs.PathReading.{path_of}
use Rattle.handlebars_base.specs.Optional.{with_or}
use Rattle.handlebars_base.specs.Texts.{after_byte}
use Rattle.handlebars_expressions.specs.Laws.{HasLiteral, NoLiteral}
use Rattle.handlebars_expressions.specs.LiteralReading.{LiteralToken, literal_at}
use Rattle.handlebars_expressions.specs.Parameter.{Term, literal_term, path_term, call_term, IsParameter}
use Rattle.handlebars_expressions.specs.Expression.{value_name, in_parentheses, Expression, IsExpression, NoExpression}
use Rattle.handlebars_expressions.specs.ExpressionLaws.{HasExpression}
use Rattle.handlebars_expressions.specs.LiteralValueReading.{literal_value_of}
use Rattle.handlebars_expressions.proofs.LiteralsFound.{literal_at-is, literal_at-some}
use Rattle.handlebars_expressions.proofs.Parameters.{nested-has, nested-no_expression, nested-goes_on, literal-is, path-is, single-goes_on, single-no_path, one_parameter}
use Rattle.handlebars_template.specs.Tree.{escaped_expression, Call, Param, path, literal, subexpression}
use Rattle.handlebars_template.specs.Calls.{max_nesting, param_of, literals_of, first_rejected, invalid}
use Rattle.handlebars_template.specs.ExpressionBuildingView.{built_call, IsCallOf, IsBuilt}
use Rattle.handlebars_template.specs.ParameterParsing.{parsed, rejected, parsing_of, Parses, reads, too_deep, unreadable, OneParsing}
use Rattle.handlebars_template.specs.ParameterParsingView.{HasNested, NoNested}
use Rattle.handlebars_template.specs.declared.template.expression.BuiltExpression.{BuiltExpression}

-- ---- one result

one-reads : (text : Text) (a b : Term) (depth depth' : ℕ) → IsParameter text a depth → IsParameter text b depth' → parsing_of a ≡ parsing_of b
one-reads text a b depth depth' h g = ap parsing_of (one_parameter text a b depth depth' h g).0

pub one_parsing : OneParsing
one_parsing text _ _ (reads a n h le) (reads b m g le') = one-reads text a b n m h g
one_parsing text _ _ (reads a n h le) (too_deep b m g lt) = let same = (one_parameter text a b n m h g).1 in absurd (omega (arith, same))
one_parsing text _ _ (reads a n h le) (unreadable none) = absurd (none a n h)
one_parsing text _ _ (too_deep a n h lt) (reads b m g le) = let same = (one_parameter text a b n m h g).1 in absurd (omega (arith, same))
one_parsing text _ _ (too_deep a n h lt) (too_deep b m g lt') = refl
one_parsing text _ _ (too_deep a n h lt) (unreadable none) = refl
one_parsing text _ _ (unreadable none) (reads a n h le) = absurd (none a n h)
one_parsing text _ _ (unreadable none) (too_deep a n h lt) = refl
one_parsing text _ _ (unreadable none) (unreadable none') = refl

-- ---- by the first literal that has no value

pub parses_param : (text : Text) (means : Term) (depth : ℕ) (p : Param) → IsParameter text means depth → depth ≤ max_nesting
    → first_rejected (literals_of means) ≡ None → p ≡ param_of means → Parses text (parsed p)
parses_param text means depth p h le has_value is =
    let same : parsing_of means ≡ parsed p = ap (λ (o : Option Text). with_or o (λ raw. rejected (invalid raw)) (parsed (param_of means))) has_value ∙ ap (λ (q : Param). parsed q) (sym is) in
    subst (Parses text) same (reads means depth h le)

pub parses_rejected : (text : Text) (means : Term) (depth : ℕ) (raw : Text) → IsParameter text means depth → depth ≤ max_nesting
    → first_rejected (literals_of means) ≡ Some raw → Parses text (rejected (invalid raw))
parses_rejected text means depth raw h le worthless =
    let same : parsing_of means ≡ rejected (invalid raw) = ap (λ (o : Option Text). with_or o (λ raw. rejected (invalid raw)) (parsed (param_of means))) worthless in
    subst (Parses text) same (reads means depth h le)

-- ---- an expression in parentheses

pub nested_none : (inside : Text) → NoExpression value_name in_parentheses (after_white inside) → NoNested inside
nested_none inside none text opens = nested-no_expression text inside opens none

pub nested_open : (inside left : Text) (depth : ℕ) → HasExpression value_name in_parentheses (after_white inside) depth left → None ≡ after_byte 41 (after_white left) → NoNested inside
nested_open inside left depth expression none text opens =
    nested-goes_on text inside depth left opens expression (λ e. none-some [] (none ∙ e))

pub nested_more : (inside left rest : Text) (depth : ℕ) → HasExpression value_name in_parentheses (after_white inside) depth left → Some rest ≡ after_byte 41 (after_white left) → (length rest == 0) ≡ false → NoNested inside
nested_more inside left rest depth expression some more text opens =
    nested-goes_on text inside depth left opens expression (λ e. eqb-false (length rest) 0 more (ap length (same_Some rest [] (some ∙ e))))

length-none : (t : Text) → (length t == 0) ≡ true → t ≡ []
length-none [] e = refl
length-none (x ∷ xs) e = let never = eqb-true (length (x ∷ xs)) 0 e in absurd (omega (arith, never))

pub nested_is : (inside left rest : Text) (depth : ℕ) → HasExpression value_name in_parentheses (after_white inside) depth left → Some rest ≡ after_byte 41 (after_white left) → (length rest == 0) ≡ true → HasNested inside depth
nested_is inside left rest depth expression some none =
    record { left = left; expression = expression; closes = sym some ∙ ap (λ (z : Text). Some z) (length-none rest none) }

-- the parameter that the expression in parentheses is, one level deeper than the expression
nested_parameter : (text inside : Text) (depth : ℕ) → after_byte 40 text ≡ Some inside → (h : HasNested inside depth) → IsParameter text (call_term h.expression.expression.name h.expression.expression.terms) (suc depth)
nested_parameter text inside depth opens h = nested-has text inside depth h.left opens h.expression h.closes

pub parses_deep : (text inside : Text) (depth : ℕ) → after_byte 40 text ≡ Some inside → HasNested inside depth → 200 ≤ depth → Parses text (rejected (invalid text))
parses_deep text inside depth opens h deep =
    too_deep (call_term h.expression.expression.name h.expression.expression.terms) (suc depth) (nested_parameter text inside depth opens h) (omega (arith, deep))

-- the result of building the expression, if there is one
abbrev pub BuildsInside : Text → Option BuiltExpression → Type 0
BuildsInside inside read = (expression : Expression) (left : Text) → IsExpression value_name in_parentheses (after_white inside) expression left → IsBuilt expression read

pub parses_lost : {A : Type 0} (inside : Text) (depth : ℕ) → HasNested inside depth → BuildsInside inside None → A
parses_lost inside depth h built = absurd (built h.expression.expression h.left h.expression.is)

pub parses_worthless : (text inside raw : Text) (depth : ℕ) (built : BuiltExpression) → after_byte 40 text ≡ Some inside → HasNested inside depth → depth < 200
    → BuildsInside inside (Some built) → option_map (λ t. t.now) built.rejected ≡ Some raw → Parses text (rejected (invalid raw))
parses_worthless text inside raw depth built opens h within builds worthless =
    let is : IsCallOf h.expression.expression built = builds h.expression.expression h.left h.expression.is in
    parses_rejected text (call_term h.expression.expression.name h.expression.expression.terms) (suc depth) raw (nested_parameter text inside depth opens h) (omega (arith, within)) (sym is.rejected ∙ worthless)

pub parses_call : (text inside : Text) (depth : ℕ) (built : BuiltExpression) (p : Param) → after_byte 40 text ≡ Some inside → HasNested inside depth → depth < 200
    → BuildsInside inside (Some built) → option_map (λ t. t.now) built.rejected ≡ None
    → p ≡ subexpression (escaped_expression (built_call built))
    → Parses text (parsed p)
parses_call text inside depth built p opens h within builds has_value is =
    let call : IsCallOf h.expression.expression built = builds h.expression.expression h.left h.expression.is in
    parses_param text (call_term h.expression.expression.name h.expression.expression.terms) (suc depth) p (nested_parameter text inside depth opens h) (omega (arith, within)) (sym call.rejected ∙ has_value)
    (is ∙ ap (λ (c : Call). subexpression (escaped_expression c)) call.call)

-- ---- a literal

pub parses_prefix : (text : Text) (token : LiteralToken) → after_byte 40 text ≡ None → HasLiteral text token → (length token.rest == 0) ≡ false → Parses text (rejected (invalid text))
parses_prefix text token closed h more =
    unreadable (single-goes_on text token closed (literal_at-is text token h) (λ e. eqb-false (length token.rest) 0 more (ap length e)))

literal_parameter : (text : Text) (token : LiteralToken) → HasLiteral text token → (length token.rest == 0) ≡ true → IsParameter text (literal_term token.raw) token.depth
literal_parameter text token h whole = literal-is text token (literal_at-is text token h) (length-none token.rest whole)

pub parses_deep_literal : (text : Text) (token : LiteralToken) → HasLiteral text token → (length token.rest == 0) ≡ true → 200 < token.depth → Parses text (rejected (invalid text))
parses_deep_literal text token h whole deep =
    too_deep (literal_term token.raw) token.depth (literal_parameter text token h whole) deep

pub parses_literal : (text : Text) (token : LiteralToken) (value : Data) → HasLiteral text token → (length token.rest == 0) ≡ true → token.depth ≤ 200 → Some value ≡ literal_value_of token.raw → Parses text (parsed (literal value))
parses_literal text token value h whole within has_value =
    parses_param text (literal_term token.raw) token.depth (literal value) (literal_parameter text token h whole) within (rw (sym has_value) refl) (rw (sym has_value) refl)

pub parses_worthless_literal : (text : Text) (token : LiteralToken) → HasLiteral text token → (length token.rest == 0) ≡ true → token.depth ≤ 200 → None ≡ literal_value_of token.raw → Parses text (rejected (invalid token.raw))
parses_worthless_literal text token h whole within worthless =
    parses_rejected text (literal_term token.raw) token.depth token.raw (literal_parameter text token h whole) within (rw (sym worthless) refl)

-- ---- a path

literal_at-missing : (text : Text) → NoLiteral text → literal_at text ≡ None
literal_at-missing text none = on (literal_at text) refl
  where
    on : (o : Option LiteralToken) → literal_at text ≡ o → literal_at text ≡ None
    on None e = e
    on (Some f) e = absurd (none f (literal_at-some text f e))

pub parses_path : (text : Text) (means : Reference) → NoLiteral text → Some means ≡ path_of text → Parses text (parsed (path means))
parses_path text means none is =
    parses_param text (path_term means) 0 (path means) (path-is text means (literal_at-missing text none) (sym is)) (omega arith) refl refl

pub parses_none : (text : Text) → after_byte 40 text ≡ None → NoLiteral text → None ≡ path_of text → Parses text (rejected (invalid text))
parses_none text closed none is = unreadable (single-no_path text closed (literal_at-missing text none) (sym is))
