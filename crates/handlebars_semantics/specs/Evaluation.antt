-- What is evaluated: the decorators of a tree or of an element alone. They are executed, and nothing is rendered.
use Rattle.std.specs.Prelude.{Option, []}
use Rattle.handlebars_base.specs.Bytes.{Text}
use Rattle.handlebars_base.specs.Reasons.{Refusal}
use Rattle.handlebars_template.specs.Tree.{Tree, tree, Elements, no_elements, element, Element, raw_string, html_expression, escaped_expression, helper_block, decorator_expression, decorator_block, partial_expression, partial_block, comment}
use Rattle.handlebars_semantics.specs.Means.{render_alone, render_elements}
use Rattle.handlebars_semantics.specs.Occurrences.{first_tree}
use Rattle.handlebars_semantics.specs.Steps.{Steps, run}

-- an element that does nothing
abbrev pub no_action : Element
no_action = comment []

-- A decorator is unchanged, and any other element does nothing.
abbrev pub decorator_alone : Element → Element
decorator_alone (raw_string t) = no_action
decorator_alone (html_expression c) = no_action
decorator_alone (escaped_expression c) = no_action
decorator_alone (helper_block c) = no_action
decorator_alone (decorator_expression t) = decorator_expression t
decorator_alone (decorator_block t) = decorator_block t
decorator_alone (partial_expression t) = no_action
decorator_alone (partial_block t) = no_action
decorator_alone (comment t) = no_action

abbrev pub decorators_alone : Elements → Elements
decorators_alone no_elements = no_elements
decorators_alone (element e es) = element (decorator_alone e) (decorators_alone es)

-- the decorators of a tree, in order, at their positions
abbrev pub eval_tree : Tree → Steps
eval_tree (tree n es positions) = run (render_elements first_tree 0 (decorators_alone es) positions)

-- an element alone
abbrev pub eval_alone : Element → Steps
eval_alone e = render_alone (decorator_alone e)

-- an error, with the name of this template, or none, instead of its own
abbrev pub renamed : Option Text → Refusal → Refusal
renamed name r = record r { location = record r.location { name = name } }
