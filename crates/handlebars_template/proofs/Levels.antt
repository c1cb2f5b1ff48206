-- The views, one level at a time.
use Rattle.std.proofs.Common.{◌≡◌, ◌&&◌, suc, ◌==◌, List, [], ◌∷◌, Option, None, Some, length, refl, sym, ap, ◌∙◌, rules, arith, Box, Global, String}
use Rattle.std.proofs.lemmas.Bool.{ne_eqb}
use Rattle.handlebars_template.specs.Tree.{Tree, Element, Call, call, Decorator, Param, Binding, both, args, bodies, call_name, call_params, call_hash, call_binding, call_body, call_inverse, call_marks, args_params, args_hash, decorator_name, decorator_args, lacks_params, lacks_hash, is_value, escaped_expression, helper_block, decorator_expression, decorator_block, partial_expression, partial_block, comment, raw_string, name, path, literal, subexpression}
use Rattle.handlebars_template.specs.TreeView.{binding_of, body_of, binding_layer, param_layer, element_layer, decorator_layer, call_layer, subexpression_layer, tree_layer, binding_view, tree_view, text, element_view, call_view, decorator_view, param_view, params_view, hash_view, body_view, block_param_view, subexpression_view}
use Rattle.handlebars_template.specs.declared.template.tree.BlockParam.{BlockParam, the_lemmas}
use Rattle.handlebars_template.specs.declared.template.tree.BlockParam.TheShapes.{former-HelperTemplate-block_param, former-DecoratorTemplate-template}
use Rattle.handlebars_template.specs.declared.template.tree.BlockParam.TheOpen.{HelperTemplate-F}
use Rattle.handlebars_template.specs.declared.template.tree.BlockParam.TheFolds.{fold-roll-HelperTemplate, fold_out-HelperTemplate}
use Rattle.handlebars_template.specs.declared.template.tree.Template.{Template}
use Rattle.handlebars_template.specs.declared.template.tree.BlockParam.TheViews.{roll-HelperTemplate, roll-Subexpression, Pair}
use Rattle.handlebars_template.specs.declared.template.tree.TemplateElement.{TemplateElement}
use Rattle.handlebars_template.specs.declared.template.tree.Subexpression.{Subexpression}
use Rattle.handlebars_template.specs.declared.template.tree.Parameter.TheVariants as parameter
use Rattle.handlebars_base.specs.declared.json.path.Path.{Path}
use Rattle.handlebars_base.specs.PathView.{reference_of}
use Rattle.serde_json.specs.View as json
use Rattle.serde_json.specs.declared.value.Value.{Value}
use Rattle.handlebars_template.specs.declared.template.tree.HelperTemplate.{HelperTemplate, out-HelperTemplate}
use Rattle.handlebars_template.specs.declared.template.tree.DecoratorTemplate.{DecoratorTemplate, out-DecoratorTemplate}
use Rattle.handlebars_template.specs.declared.template.tree.Parameter.{Parameter}
use Rattle.handlebars_template.specs.declared.template.tree.TemplateElement.TheVariants.{Expression, HelperBlock, DecoratorExpression, DecoratorBlock, PartialExpression, PartialBlock, Comment, RawString}

pub element_view-Expression : (b : Box HelperTemplate Global) → element_view (Expression b) ≡ escaped_expression (call_view b.value)
element_view-Expression b = search (rules, the_lemmas)

pub element_view-HelperBlock : (b : Box HelperTemplate Global) → element_view (HelperBlock b) ≡ helper_block (call_view b.value)
element_view-HelperBlock b = search (rules, the_lemmas)

pub element_view-DecoratorExpression : (b : Box DecoratorTemplate Global) → element_view (DecoratorExpression b) ≡ decorator_expression (decorator_view b.value)
element_view-DecoratorExpression b = search (rules, the_lemmas)

pub element_view-DecoratorBlock : (b : Box DecoratorTemplate Global) → element_view (DecoratorBlock b) ≡ decorator_block (decorator_view b.value)
element_view-DecoratorBlock b = search (rules, the_lemmas)

pub element_view-PartialExpression : (b : Box DecoratorTemplate Global) → element_view (PartialExpression b) ≡ partial_expression (decorator_view b.value)
element_view-PartialExpression b = search (rules, the_lemmas)

pub element_view-PartialBlock : (b : Box DecoratorTemplate Global) → element_view (PartialBlock b) ≡ partial_block (decorator_view b.value)
element_view-PartialBlock b = search (rules, the_lemmas)

pub element_view-RawString : (s : String Global) → element_view (RawString s) ≡ raw_string (text s)
element_view-RawString s = search (rules, the_lemmas)

pub element_view-Comment : (s : String Global) → element_view (Comment s) ≡ comment (text s)
element_view-Comment s = search (rules, the_lemmas)

-- ---- the parts of a call

pub call_name-view : (h : HelperTemplate) → call_name (call_view h) ≡ param_view (out-HelperTemplate h).name
call_name-view h = search (rules, the_lemmas)

pub call_params-view : (h : HelperTemplate) → call_params (call_view h) ≡ params_view (out-HelperTemplate h).params.items
call_params-view h = search (rules, the_lemmas)

pub call_hash-view : (h : HelperTemplate) → call_hash (call_view h) ≡ hash_view (out-HelperTemplate h).hash.entries
call_hash-view h = search (rules, the_lemmas)

pub call_binding-view : (h : HelperTemplate) → call_binding (call_view h) ≡ block_param_view (out-HelperTemplate h).block_param
call_binding-view h = search (rules, the_lemmas)

pub call_body-view : (h : HelperTemplate) → call_body (call_view h) ≡ body_view (out-HelperTemplate h).template
call_body-view h = search (rules, the_lemmas)

pub call_inverse-view : (h : HelperTemplate) → call_inverse (call_view h) ≡ body_view (out-HelperTemplate h).inverse
call_inverse-view h = search (rules, the_lemmas)

pub call_marks-view : (h : HelperTemplate) → call_marks (call_view h)
    ≡ record { block = (out-HelperTemplate h).block; chain = (out-HelperTemplate h).chain; indent_before_write = (out-HelperTemplate h).indent_before_write }
call_marks-view h = search (rules, the_lemmas)

-- ---- parameters

pub param_view-Name : (s : String Global) → param_view (parameter.Name s) ≡ name (text s)
param_view-Name s = search (rules, the_lemmas)

pub param_view-Path : (p : Path) → param_view (parameter.Path p) ≡ path (reference_of p)
param_view-Path p = search (rules, the_lemmas)

pub param_view-Literal : (v : Value) → param_view (parameter.Literal v) ≡ literal (json.view v)
param_view-Literal v = search (rules, the_lemmas)

pub param_view-Subexpression : (s : Subexpression) → param_view (parameter.Subexpression s) ≡ subexpression (subexpression_view s)
param_view-Subexpression s = search (rules, the_lemmas)

-- ---- an expression in parentheses

pub subexpression_view-roll : (b : Box TemplateElement Global) → subexpression_view (roll-Subexpression (record { element = b })) ≡ element_view b.value
subexpression_view-roll b = search (rules, the_lemmas)

-- ---- the parts of a decorator or a partial

pub decorator_name-view : (t : DecoratorTemplate) → decorator_name (decorator_view t) ≡ param_view (out-DecoratorTemplate t).name
decorator_name-view t = search (rules, the_lemmas)

pub decorator_params-view : (t : DecoratorTemplate) → args_params (decorator_args (decorator_view t)) ≡ params_view (out-DecoratorTemplate t).params.items
decorator_params-view t = search (rules, the_lemmas)

pub decorator_hash-view : (t : DecoratorTemplate) → args_hash (decorator_args (decorator_view t)) ≡ hash_view (out-DecoratorTemplate t).hash.entries
decorator_hash-view t = search (rules, the_lemmas)

-- ---- values

pub lacks_params-view : (ps : List Parameter) → lacks_params (params_view ps) ≡ (length ps == 0)
lacks_params-view [] = refl
lacks_params-view (p ∷ ps) = sym (ne_eqb (suc (length ps)) 0 (λ e. absurd (omega arith)))

pub lacks_hash-view : (hs : List (String Global × Parameter)) → lacks_hash (hash_view hs) ≡ (length hs == 0)
lacks_hash-view [] = refl
lacks_hash-view (h ∷ hs) = sym (ne_eqb (suc (length hs)) 0 (λ e. absurd (omega arith)))

pub is_value-view : (h : HelperTemplate) → is_value (call_view h)
    ≡ (length (out-HelperTemplate h).params.items == 0) && (length (out-HelperTemplate h).hash.entries == 0)
is_value-view h =
    let ps : lacks_params (call_params (call_view h)) ≡ (length (out-HelperTemplate h).params.items == 0) = ap lacks_params (call_params-view h) ∙ lacks_params-view (out-HelperTemplate h).params.items in
    let hs : lacks_hash (call_hash (call_view h)) ≡ (length (out-HelperTemplate h).hash.entries == 0) = ap lacks_hash (call_hash-view h) ∙ lacks_hash-view (out-HelperTemplate h).hash.entries in
    rw (ps, hs) refl

-- ---- a whole call

block_param-view : (o : Option BlockParam) → binding_of (former-HelperTemplate-block_param.map BlockParam Binding binding_view o) ≡ block_param_view o
block_param-view None = refl
block_param-view (Some b) = refl

body-view : (o : Option Template) → body_of (former-DecoratorTemplate-template.map Template Tree tree_view o) ≡ body_view o
body-view None = refl
body-view (Some t) = refl

pub call_view-roll : (x : HelperTemplate-F BlockParam Parameter TemplateElement DecoratorTemplate HelperTemplate Subexpression Template)
    → call_view (roll-HelperTemplate x) ≡ call (param_view x.name) (args (params_view x.params.items) (hash_view x.hash.entries))
    (block_param_view x.block_param) (bodies (body_view x.template) (body_view x.inverse))
    (record { block = x.block; chain = x.chain; indent_before_write = x.indent_before_write })
call_view-roll x =
    fold-roll-HelperTemplate Binding Param Element Decorator Call Element Tree binding_layer param_layer element_layer decorator_layer call_layer subexpression_layer tree_layer x
    ∙ rw (block_param-view x.block_param, body-view x.template, body-view x.inverse) refl

pub call_view-out : (h : HelperTemplate)
    → call_view h ≡ call (param_view (out-HelperTemplate h).name) (args (params_view (out-HelperTemplate h).params.items) (hash_view (out-HelperTemplate h).hash.entries))
    (block_param_view (out-HelperTemplate h).block_param) (bodies (body_view (out-HelperTemplate h).template) (body_view (out-HelperTemplate h).inverse))
    (record { block = (out-HelperTemplate h).block; chain = (out-HelperTemplate h).chain; indent_before_write = (out-HelperTemplate h).indent_before_write })
call_view-out h =
    fold_out-HelperTemplate Binding Param Element Decorator Call Element Tree binding_layer param_layer element_layer decorator_layer call_layer subexpression_layer tree_layer h
    ∙ rw (block_param-view (out-HelperTemplate h).block_param, body-view (out-HelperTemplate h).template, body-view (out-HelperTemplate h).inverse) refl

-- ---- the names that a block binds

pub binding_view-Pair : (a b : Parameter) → binding_view (Pair (a, b)) ≡ both (param_view a) (param_view b)
binding_view-Pair a b = search (rules, the_lemmas)
