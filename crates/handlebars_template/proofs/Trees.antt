-- A template as the code makes it, and the tree that it stands for.
use Rattle.std.proofs.Common.{◌≡◌, map, rules, option_map}
use Rattle.handlebars_template.specs.Tree.{tree}
use Rattle.handlebars_template.specs.TreeView.{text, position_of, tree_view, elements_view}
use Rattle.handlebars_template.specs.declared.template.tree.BlockParam.{BlockParam, the_lemmas}
use Rattle.handlebars_template.specs.declared.template.tree.BlockParam.TheOpen.{Template-F}
use Rattle.handlebars_template.specs.declared.template.tree.BlockParam.TheViews.{roll-Template, out-Template}
use Rattle.handlebars_template.specs.declared.template.tree.HelperTemplate.{HelperTemplate}
use Rattle.handlebars_template.specs.declared.template.tree.DecoratorTemplate.{DecoratorTemplate}
use Rattle.handlebars_template.specs.declared.template.tree.Template.{Template}
use Rattle.handlebars_template.specs.declared.template.tree.TemplateElement.{TemplateElement}
use Rattle.handlebars_template.specs.declared.template.tree.Parameter.{Parameter}
use Rattle.handlebars_template.specs.declared.template.tree.Subexpression.{Subexpression}

pub tree_view-roll : (x : Template-F BlockParam Parameter TemplateElement DecoratorTemplate HelperTemplate Subexpression Template)
    → tree_view (roll-Template x) ≡ tree (option_map text x.name) (elements_view x.elements.items) (map position_of x.mapping.items)
tree_view-roll x = search (rules, the_lemmas)

pub tree_view-out : (t : Template)
    → tree_view t ≡ tree (option_map text (out-Template t).name) (elements_view (out-Template t).elements.items) (map position_of (out-Template t).mapping.items)
tree_view-out t = search (rules, the_lemmas)
