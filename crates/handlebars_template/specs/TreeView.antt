-- The tree that a `Template` stands for.
use Rattle.std.specs.Prelude.{List, [], ◌∷◌, map, Option, None, Some, option_map, String, string_bytes}
use Rattle.std.specs.declared.alloc.Global.{Global}
use Rattle.serde_json.specs.View as json
use Rattle.handlebars_base.specs.Bytes.{Text}
use Rattle.handlebars_base.specs.PathView.{reference_of}
use Rattle.handlebars_template.specs.Position.{Position}
use Rattle.handlebars_template.specs.Tree.{CallMarks, DecoratorMarks, Tree, tree, Elements, elements_of, Element, raw_string, html_expression, escaped_expression, helper_block, decorator_expression, decorator_block, partial_expression, partial_block, comment, Call, call, Decorator, decorator, Args, args, bodies, Param, name, path, literal, subexpression, Params, params_of, Hash, no_hash, hash_pair, Binding, no_binding, single, both, Body, no_body, body}
use Rattle.handlebars_template.specs.declared.template.arguments.Arguments.{Arguments}
use Rattle.handlebars_template.specs.declared.template.tree.TemplateMapping.{TemplateMapping}
use Rattle.handlebars_template.specs.declared.template.tree.Template.{Template, fold-Template}
use Rattle.handlebars_template.specs.declared.template.tree.TemplateElement.{TemplateElement, fold-TemplateElement}
use Rattle.handlebars_template.specs.declared.template.tree.HelperTemplate.{HelperTemplate, fold-HelperTemplate}
use Rattle.handlebars_template.specs.declared.template.tree.DecoratorTemplate.{DecoratorTemplate, fold-DecoratorTemplate}
use Rattle.handlebars_template.specs.declared.template.tree.ExpressionSpec.{ExpressionSpec}
use Rattle.handlebars_template.specs.declared.template.tree.BlockParam.{BlockParam, fold-BlockParam}
use Rattle.handlebars_template.specs.declared.template.tree.Parameter.{Parameter, fold-Parameter}
use Rattle.handlebars_template.specs.declared.template.tree.Subexpression.{Subexpression, fold-Subexpression}
use Rattle.handlebars_template.specs.declared.template.tree.BlockParam.TheOpen.{BlockParam-F, Parameter-F, TemplateElement-F, DecoratorTemplate-F, HelperTemplate-F, Subexpression-F, Template-F}

abbrev pub text : String Global → Text
text s = string_bytes s

abbrev pub position_of : TemplateMapping → Position
position_of m = record { line = m.0; column = m.1 }

abbrev pub hash_of : List (String Global × Param) → Hash
hash_of [] = no_hash
hash_of (h ∷ hs) = hash_pair (text h.0) h.1 (hash_of hs)

abbrev pub binding_of : Option Binding → Binding
binding_of None = no_binding
binding_of (Some b) = b

abbrev pub body_of : Option Tree → Body
body_of None = no_body
body_of (Some t) = body t

-- One level of a type, over the views of the types inside it.
abbrev pub Layer : (Type 0 → Type 0 → Type 0 → Type 0 → Type 0 → Type 0 → Type 0 → Type 0) → Type 0
Layer Level = Level Binding Param Element Decorator Call Element Tree

abbrev pub binding_layer : Layer BlockParam-F → Binding
binding_layer (BlockParam-F.Single p) = single p
binding_layer (BlockParam-F.Pair p) = both p.0 p.1

abbrev pub param_layer : Layer Parameter-F → Param
param_layer (Parameter-F.Name s) = name (text s)
param_layer (Parameter-F.Path p) = path (reference_of p)
param_layer (Parameter-F.Literal v) = literal (json.view v)
param_layer (Parameter-F.Subexpression s) = subexpression s

abbrev pub element_layer : Layer TemplateElement-F → Element
element_layer (TemplateElement-F.RawString s) = raw_string (text s)
element_layer (TemplateElement-F.HtmlExpression b) = html_expression b.value
element_layer (TemplateElement-F.Expression b) = escaped_expression b.value
element_layer (TemplateElement-F.HelperBlock b) = helper_block b.value
element_layer (TemplateElement-F.DecoratorExpression b) = decorator_expression b.value
element_layer (TemplateElement-F.DecoratorBlock b) = decorator_block b.value
element_layer (TemplateElement-F.PartialExpression b) = partial_expression b.value
element_layer (TemplateElement-F.PartialBlock b) = partial_block b.value
element_layer (TemplateElement-F.Comment s) = comment (text s)

abbrev pub decorator_layer : Layer DecoratorTemplate-F → Decorator
decorator_layer t =
    decorator t.name (args (params_of t.params.items) (hash_of t.hash.entries)) (body_of t.template)
    (record { indent = option_map text t.indent; indent_before_write = t.indent_before_write })

abbrev pub call_layer : Layer HelperTemplate-F → Call
call_layer h =
    call h.name (args (params_of h.params.items) (hash_of h.hash.entries)) (binding_of h.block_param)
    (bodies (body_of h.template) (body_of h.inverse))
    (record { block = h.block; chain = h.chain; indent_before_write = h.indent_before_write })

abbrev pub subexpression_layer : Layer Subexpression-F → Element
subexpression_layer s = s.element.value

abbrev pub tree_layer : Layer Template-F → Tree
tree_layer t = tree (option_map text t.name) (elements_of t.elements.items) (map position_of t.mapping.items)

-- The fold of a type takes the view of each level.
abbrev pub Fold : Type 0 → Type 0
Fold View =
    (Layer BlockParam-F → Binding) → (Layer Parameter-F → Param) → (Layer TemplateElement-F → Element)
    → (Layer DecoratorTemplate-F → Decorator) → (Layer HelperTemplate-F → Call) → (Layer Subexpression-F → Element)
    → (Layer Template-F → Tree) → View

abbrev pub by_layers : {View : Type 0} → Fold View → View
by_layers fold = fold binding_layer param_layer element_layer decorator_layer call_layer subexpression_layer tree_layer

-- what each type stands for
abbrev pub binding_view : BlockParam → Binding
binding_view = by_layers (fold-BlockParam _ _ _ _ _ _ _)

abbrev pub param_view : Parameter → Param
param_view = by_layers (fold-Parameter _ _ _ _ _ _ _)

abbrev pub element_view : TemplateElement → Element
element_view = by_layers (fold-TemplateElement _ _ _ _ _ _ _)

abbrev pub decorator_view : DecoratorTemplate → Decorator
decorator_view = by_layers (fold-DecoratorTemplate _ _ _ _ _ _ _)

abbrev pub call_view : HelperTemplate → Call
call_view = by_layers (fold-HelperTemplate _ _ _ _ _ _ _)

abbrev pub subexpression_view : Subexpression → Element
subexpression_view = by_layers (fold-Subexpression _ _ _ _ _ _ _)

abbrev pub tree_view : Template → Tree
tree_view = by_layers (fold-Template _ _ _ _ _ _ _)

abbrev pub elements_view : List TemplateElement → Elements
elements_view es = elements_of (map element_view es)

abbrev pub params_view : List Parameter → Params
params_view ps = params_of (map param_view ps)

abbrev pub hash_view : List (String Global × Parameter) → Hash
hash_view hs = hash_of (map (λ h. (h.0, param_view h.1)) hs)

abbrev pub body_view : Option Template → Body
body_view t = body_of (option_map tree_view t)

abbrev pub block_param_view : Option BlockParam → Binding
block_param_view b = binding_of (option_map binding_view b)

abbrev pub arguments_view : Arguments → Args
arguments_view xs = args (params_view xs.params.items) (hash_view xs.hash.entries)

-- the call that the inside of a tag is, without bodies
abbrev pub spec_call : ExpressionSpec → CallMarks → Call
spec_call spec marks =
    call (param_view spec.name) (args (params_view spec.params.items) (hash_view spec.hash.entries))
    (block_param_view spec.block_param) (bodies no_body no_body) marks

-- the decorator or the partial that the inside of a tag is, without a body
abbrev pub spec_decorator : ExpressionSpec → DecoratorMarks → Decorator
spec_decorator spec marks =
    decorator (param_view spec.name) (args (params_view spec.params.items) (hash_view spec.hash.entries)) no_body marks
