-- What is built from tags, and what that stands for.
use Rattle.std.proofs.Common.{◌≡◌, ℕ, Bool, true, false, cond, List, [], ◌++◌, refl, sym, ap, subst, ◌∙◌, Option, option_map}
use Rattle.std.proofs.lemmas.Bool.{false≢true}
use Rattle.handlebars_base.specs.Bytes.{Text}
use Rattle.handlebars_expressions.specs.Parameter.{Term, name_term, Terms, TermShape, literal_shape, path_shape, nested_shape, Items, no_items, parameter_item, hash_item, term_of, terms_of}
use Rattle.handlebars_expressions.specs.Expression.{NameMode, value_name, close_name, opening_name, Expression, in_tag, in_block, IsExpression, NameShape, plain_name, term_name, is_nested, IsName, term_of_name}
use Rattle.handlebars_expressions.specs.Alone.{IsAlone}
use Rattle.handlebars_expressions.specs.ExpressionView.{key_of}
use Rattle.handlebars_lexer.specs.Tag.{Tag, escaped_tag, html_tag, tag_depth, BlockExpression, written_name}
use Rattle.handlebars_lexer.specs.Options.{Options}
use Rattle.handlebars_lexer.specs.Trim.{WhitespaceControl}
use Rattle.handlebars_lexer.specs.TagView.{Holds, HoldsExpression, HoldsPath, HoldsBlock, IsBlockToken, value_tag}
use Rattle.handlebars_lexer.specs.declared.tag.inside.BlockToken.{BlockToken}
use Rattle.handlebars_lexer.specs.declared.tag.inside.PathToken.{PathToken}
use Rattle.handlebars_lexer.specs.declared.tag.inside.Content.{Content}
use Rattle.handlebars_lexer.specs.declared.tag.inside.Content.TheVariants as content
use Rattle.handlebars_template.specs.Position.{Position}
use Rattle.handlebars_template.specs.Tree.{Element, decorator, Args, no_arguments, lacks_arguments, Param, name, Binding, no_binding, no_body, call_name, call_args}
use Rattle.handlebars_template.specs.TreeView.{param_view, arguments_view}
use Rattle.handlebars_template.specs.Calls.{named_param, name_before, param_of, arguments_in, call_of, first_rejected, literals_of, literals_in, expression_literals}
use Rattle.handlebars_template.specs.Nest.{BlockKind, helper_opening, partial_opening, Opening as Said, SourcePiece, leaf, opens, chains}
use Rattle.handlebars_template.specs.NestView.{opening_view, early, Looks, AppliesPiece}
use Rattle.handlebars_template.specs.Compile.{block_binding, is_indented, opening_of, closing_name, partial_opening_of, partial_indentation, partial_of, tag_piece}
use Rattle.handlebars_template.specs.ScanView.{value_element, value_piece, HasOpening, KnowsName}
use Rattle.handlebars_template.specs.ExpressionBuildingView.{IsCallOf}
use Rattle.handlebars_template.specs.declared.template.expression.BuiltExpression.{BuiltExpression}
use Rattle.handlebars_template.specs.declared.template.nest.Nesting.{Nesting}
use Rattle.handlebars_template.specs.declared.template.nest.SyntaxError.{SyntaxError}
use Rattle.handlebars_template.specs.declared.template.tags.BuiltOpening.{BuiltOpening}

-- ---- the content of the opening tag of a block

abbrev said : BlockKind → Param → Text → Args → Binding → Bool → Said
said k n closing xs b indent =
    record { kind = k; name = n; closing = closing; arguments = xs; binding = b; indent = indent }

abbrev with_arguments : Args → Said → Said
with_arguments xs o =
    record { kind = o.kind; name = o.name; closing = o.closing; arguments = xs; binding = o.binding; indent = o.indent }

pub said-along : (k : BlockKind) (e : WhitespaceControl) (expression : BlockExpression) (n : Param) (closing : Text) (xs : Args) (b : Binding) (i : Bool) → n ≡ param_of expression.name → closing ≡ written_name expression.name
    → xs ≡ arguments_in no_arguments expression.terms → b ≡ block_binding expression.binding → i ≡ is_indented e → said k n closing xs b i ≡ opening_of k e expression
said-along k e expression n closing xs b i names closes arguments binds indented = rw (names, closes, arguments, binds, indented) refl

-- a bare opening, with its name given by its text, and with the arguments of its expression
pub said-named : (k : BlockKind) (e : WhitespaceControl) (expression : BlockExpression) (n closing : Text) (xs : Args) (b : Binding) (o : Said) → o ≡ said k (name closing) closing no_arguments b (is_indented e)
    → expression.name ≡ name_term n → written_name expression.name ≡ closing → xs ≡ arguments_in no_arguments expression.terms → b ≡ block_binding expression.binding → with_arguments xs o ≡ opening_of k e expression
said-named k e expression n closing xs b o is named written arguments binds =
    let same : closing ≡ n = sym written ∙ ap written_name named in
    ap (with_arguments xs) is
    ∙ said-along k e expression (name closing) closing xs b (is_indented e) (ap name same ∙ ap param_of (sym named)) (sym written) arguments binds refl

name_before-unchanged : (xs : Args) (p : Param) → named_param p ≡ p → name_before xs p ≡ p
name_before-unchanged xs p is = on (lacks_arguments xs)
  where
    on : (b : Bool) → cond b p (named_param p) ≡ p
    on true = refl
    on false = is

-- The name of a block is a text, or a path with no arguments after it. So it is unchanged, and has no literals.
record OpensBlock (name : Term) (terms : Terms) : Type 0 where
  unchanged : name_before (arguments_in no_arguments terms) (param_of name) ≡ param_of name
  no_literals : literals_of name ≡ []

opens_block : (x : NameShape) (items : Items) (rest : Text) → IsName opening_name x items rest → OpensBlock (term_of_name x) (terms_of items)
opens_block (plain_name t) items rest is = record { unchanged = name_before-unchanged (arguments_in no_arguments (terms_of items)) (name t) refl; no_literals = refl }
opens_block (term_name (literal_shape l)) items rest is = absurd (false≢true is.0)
opens_block (term_name (path_shape t means)) no_items rest is = record { unchanged = refl; no_literals = refl }
opens_block (term_name (path_shape t means)) (parameter_item w p more) rest is = absurd (false≢true is.0)
opens_block (term_name (path_shape t means)) (hash_item w key u v p more) rest is = absurd (false≢true is.0)
opens_block (term_name (nested_shape w head inner v)) items rest is = absurd (false≢true is.0)

-- what was built from the expression of a block
pub record IsBlockOf (expression : Expression) (built : BuiltExpression) : Type 0 where
  pub name : param_view built.name ≡ param_of expression.name
  pub arguments : arguments_view built.arguments ≡ arguments_in no_arguments expression.terms
  pub rejected : key_of built.rejected ≡ first_rejected (literals_in expression.terms)

pub block_built : (t rest : Text) (expression : Expression) (built : BuiltExpression) → IsExpression opening_name in_block t expression rest → IsCallOf expression built → IsBlockOf expression built
block_built t rest expression built is call =
    let opens : OpensBlock expression.name expression.terms = subst (λ (z : Expression). OpensBlock z.name z.terms) (sym is.gives) (opens_block is.name is.items _ is.is_name) in
    record {
      name = ap call_name call.call ∙ opens.unchanged;
      arguments = ap call_args call.call;
      rejected = call.rejected ∙ ap (λ (z : List Text). first_rejected (z ++ literals_in expression.terms)) opens.no_literals;
    }

-- ---- the name of a partial

-- The name is a text or a call, and is unchanged with or without arguments after it.
unchanged_shape : (p : TermShape) → is_nested p ≡ true → named_param (param_of (term_of p)) ≡ param_of (term_of p)
unchanged_shape (literal_shape l) is = absurd cc
unchanged_shape (path_shape t means) is = absurd cc
unchanged_shape (nested_shape w head items v) is = refl

unchanged_name : (x : NameShape) (items : Items) (rest : Text) → IsName close_name x items rest → named_param (param_of (term_of_name x)) ≡ param_of (term_of_name x)
unchanged_name (plain_name t) items rest is = refl
unchanged_name (term_name p) items rest is = unchanged_shape p is.0

-- what was built from the expression of a partial
pub record IsInclusionOf (expression : Expression) (built : BuiltExpression) : Type 0 where
  pub name : param_view built.name ≡ param_of expression.name
  pub arguments : arguments_view built.arguments ≡ arguments_in no_arguments expression.terms
  pub rejected : key_of built.rejected ≡ first_rejected (expression_literals expression)

pub inclusion_built : (t rest : Text) (expression : Expression) (built : BuiltExpression) → IsExpression close_name in_tag t expression rest → IsCallOf expression built → IsInclusionOf expression built
inclusion_built t rest expression built is call =
    let xs : Args = arguments_in no_arguments expression.terms in
    let same : param_of expression.name ≡ param_of (term_of_name is.name) = ap (λ (z : Expression). param_of z.name) is.gives in
    let unchanged : named_param (param_of expression.name) ≡ param_of expression.name = ap named_param same ∙ unchanged_name is.name is.items _ is.is_name ∙ sym same in
    record {
      name = ap call_name call.call ∙ name_before-unchanged xs (param_of expression.name) unchanged;
      arguments = ap call_args call.call;
      rejected = call.rejected;
    }

pub inclusion_along : (options : Options) (e : WhitespaceControl) (expression : Expression) (n : Param) (xs : Args) (indent : Option Text) (i : Bool) → n ≡ param_of expression.name → xs ≡ arguments_in no_arguments expression.terms
    → indent ≡ partial_indentation options e → i ≡ is_indented e → decorator n xs no_body (record { indent = indent; indent_before_write = i }) ≡ partial_of options e expression
inclusion_along options e expression n xs indent i names arguments blanks indented = rw (names, arguments, blanks, indented) refl

abbrev partial_said : Param → Text → Args → Bool → Said
partial_said n closing xs i =
    record { kind = partial_opening; name = n; closing = closing; arguments = xs; binding = no_binding; indent = i }

pub opening_along : (e : WhitespaceControl) (expression : Expression) (n : Param) (closing : Text) (xs : Args) (i : Bool) → n ≡ param_of expression.name → closing ≡ closing_name n → xs ≡ arguments_in no_arguments expression.terms → i ≡ is_indented e
    → partial_said n closing xs i ≡ partial_opening_of e expression
opening_along e expression n closing xs i names closes arguments indented = rw (closes, names, arguments, indented) refl

-- ---- a tag does what its expression does

pub AppliesPiece-leaf : (old new : Nesting) (p : Position) (n : ℕ) (x y : Element) (rejected r : Option Text) → x ≡ y → rejected ≡ r → ((n : ℕ) → AppliesPiece old (leaf p x n rejected) new)
    → AppliesPiece old (leaf p y n r) new
AppliesPiece-leaf old new p n x y rejected r one two does =
    subst (λ (z : Option Text). AppliesPiece old (leaf p y n z) new) two (subst (λ (z : Element). AppliesPiece old (leaf p z n rejected) new) one (does n))

pub AppliesPiece-opening : (old new : Nesting) (p : Position) (n : ℕ) (x y : Said) (rejected r : Option Text) → x ≡ y → rejected ≡ r → ((n : ℕ) → AppliesPiece old (opens p x n rejected) new)
    → AppliesPiece old (opens p y n r) new
AppliesPiece-opening old new p n x y rejected r one two does =
    subst (λ (z : Option Text). AppliesPiece old (opens p y n z) new) two (subst (λ (z : Said). AppliesPiece old (opens p z n rejected) new) one (does n))

pub AppliesPiece-opens : (old new : Nesting) (p : Position) (e : WhitespaceControl) (expression : BlockExpression) (kind : BlockKind) (built : BuiltOpening) → HasOpening kind e expression built
    → ((n : ℕ) → AppliesPiece old (opens p (opening_view built.opening) n (option_map (λ t. t.now) built.rejected)) new) → AppliesPiece old (opens p (opening_of kind e expression) expression.depth (first_rejected (literals_in expression.terms))) new
AppliesPiece-opens old new p e expression kind built o does = AppliesPiece-opening old new p expression.depth (opening_view built.opening) (opening_of kind e expression) _ _ o.opening o.rejected does

pub AppliesPiece-chains : (old new : Nesting) (p : Position) (e : WhitespaceControl) (expression : BlockExpression) (built : BuiltOpening) → HasOpening helper_opening e expression built
    → ((n : ℕ) → AppliesPiece old (chains p (opening_view built.opening) n (option_map (λ t. t.now) built.rejected)) new) → AppliesPiece old (chains p (opening_of helper_opening e expression) expression.depth (first_rejected (literals_in expression.terms))) new
AppliesPiece-chains old new p e expression built o does =
    subst (λ (r : Option Text). AppliesPiece old (chains p (opening_of helper_opening e expression) expression.depth r) new) o.rejected
    (subst (λ (x : Said). AppliesPiece old (chains p x expression.depth (option_map (λ t. t.now) built.rejected)) new) o.opening (does expression.depth))

pub AppliesPiece-expression : (options : Options) (old new : Nesting) (p : Position) (e : WhitespaceControl) (mode : NameMode) (of : Expression → Tag) (t : Text) (tag : Tag) → HoldsExpression mode of t tag
    → ((expression : Expression) (rest : Text) → IsExpression mode in_tag t expression rest → AppliesPiece old (tag_piece options p e (of expression)) new) → AppliesPiece old (tag_piece options p e tag) new
AppliesPiece-expression options old new p e mode of t tag h does = subst (λ (z : Tag). AppliesPiece old (tag_piece options p e z) new) (sym h.gives) (does h.expression h.after h.is_expression)

pub AppliesPiece-block : (options : Options) (old new : Nesting) (p : Position) (e : WhitespaceControl) (of : BlockExpression → Tag) (token : BlockToken) (tag : Tag) → HoldsBlock of token tag
    → ((expression : BlockExpression) (rest : Text) → IsBlockToken token expression rest → AppliesPiece old (tag_piece options p e (of expression)) new) → AppliesPiece old (tag_piece options p e tag) new
AppliesPiece-block options old new p e of token tag h does = subst (λ (z : Tag). AppliesPiece old (tag_piece options p e z) new) (sym h.gives) (does h.expression h.rest h.is_token)

-- ---- the check of a tag before it is added

pub Looks-same : (options : Options) (old : Nesting) (p : Position) (e : WhitespaceControl) (seen : Option SyntaxError) (tag same : Tag) → tag ≡ same → Looks p (early old (tag_piece options p e same)) seen
    → Looks p (early old (tag_piece options p e tag)) seen
Looks-same options old p e seen tag same is = subst (λ (z : Tag). Looks p (early old (tag_piece options p e z)) seen) (sym is)

pub Looks-at : {A : Type 0} (options : Options) (old : Nesting) (p : Position) (e : WhitespaceControl) (seen : Option SyntaxError) (tag same : Tag) (piece : A → ℕ → Option Text → SourcePiece) (x : A) (r : Option Text) (depth : ℕ)
    → tag ≡ same → tag_depth tag ≡ depth → tag_piece options p e same ≡ piece x (tag_depth same) r → ((x : A) (r : Option Text) → Looks p (early old (piece x depth r)) seen)
    → Looks p (early old (tag_piece options p e tag)) seen
Looks-at options old p e seen tag same piece x r depth is deep is_piece looks =
    let at : tag_piece options p e same ≡ piece x depth r = is_piece ∙ ap (λ (n : ℕ). piece x n r) (ap tag_depth (sym is) ∙ deep) in
    Looks-same options old p e seen tag same is (subst (λ (y : SourcePiece). Looks p (early old y) seen) (sym at) (looks x r))

-- ---- a path alone in its tag

value-piece : (options : Options) (p : Position) (e : WhitespaceControl) (expression : Expression) (is_escaped : Bool) → tag_piece options p e (value_tag is_escaped expression) ≡ value_piece is_escaped p expression
value-piece options p e expression true = refl
value-piece options p e expression false = refl

value-depth : (expression : Expression) (is_escaped : Bool) → expression.depth ≡ tag_depth (value_tag is_escaped expression)
value-depth expression true = refl
value-depth expression false = refl

pub AppliesPiece-path : (options : Options) (old new : Nesting) (p : Position) (e : WhitespaceControl) (token : PathToken) (tag : Tag) → HoldsPath token tag
    → ((expression : Expression) (text after left : Text) → IsExpression value_name in_tag text expression after → IsAlone in_tag text token.raw.now left → AppliesPiece old (value_piece token.is_escaped p expression) new)
    → AppliesPiece old (tag_piece options p e tag) new
AppliesPiece-path options old new p e token tag h does =
    subst (λ (z : Tag). AppliesPiece old (tag_piece options p e z) new) (sym h.gives)
    (subst (λ (z : SourcePiece). AppliesPiece old z new) (sym (value-piece options p e h.expression token.is_escaped)) (does h.expression h.text h.after h.left h.is_expression h.is_alone))

pub Looks-path : (options : Options) (old : Nesting) (p : Position) (e : WhitespaceControl) (seen : Option SyntaxError) (token : PathToken) (tag : Tag) (depth : ℕ) → HoldsPath token tag → tag_depth tag ≡ depth
    → ((x : Element) (r : Option Text) → Looks p (early old (leaf p x depth r)) seen) → Looks p (early old (tag_piece options p e tag)) seen
Looks-path options old p e seen token tag depth h deep looks =
    let x : Element = value_element token.is_escaped (call_of h.expression.name h.expression.terms) in
    let r : Option Text = first_rejected (expression_literals h.expression) in
    let at : h.expression.depth ≡ depth = value-depth h.expression token.is_escaped ∙ ap tag_depth (sym h.gives) ∙ deep in
    Looks-same options old p e seen tag (value_tag token.is_escaped h.expression) h.gives
    (subst (λ (z : SourcePiece). Looks p (early old z) seen) (sym (value-piece options p e h.expression token.is_escaped))
    (subst (λ (n : ℕ). Looks p (early old (leaf p x n r)) seen) (sym at) (looks x r)))

-- what is false for every value is false for a path
pub never-path : (f : Tag → Bool) → ((expression : Expression) → f (escaped_tag expression) ≡ false) → ((expression : Expression) → f (html_tag expression) ≡ false) → (token : PathToken) (tag : Tag) → HoldsPath token tag → false ≡ f tag
never-path f escaped raw token tag h = sym (ap f h.gives ∙ on token.is_escaped)
  where
    on : (b : Bool) → f (value_tag b h.expression) ≡ false
    on true = escaped h.expression
    on false = raw h.expression

pub knows_name : (c : Content) (tag : Tag) → Holds c tag → KnowsName c
knows_name (content.Path token) tag h = h.is_name
knows_name (content.Expression _) tag h = tt
knows_name (content.Html _) tag h = tt
knows_name (content.Block _) tag h = tt
knows_name content.Inverse tag h = tt
knows_name (content.Chain _) tag h = tt
knows_name (content.Close _) tag h = tt
knows_name (content.RawBlock _) tag h = tt
knows_name (content.RawClose _) tag h = tt
knows_name (content.Decorator _) tag h = tt
knows_name (content.DecoratorBlock _) tag h = tt
knows_name (content.Partial _) tag h = tt
knows_name (content.PartialBlock _) tag h = tt
knows_name (content.Comment _) tag h = tt
