use Rattle.std.proofs.Common.{◌∙◌, ap, rules}
use Rattle.handlebars_template.specs.Tree.{escaped_expression}
use Rattle.handlebars_template.specs.TreeView.{element_view}
use Rattle.handlebars_template.specs.declared.template.tree.BlockParam.{the_lemmas}
use Rattle.handlebars_template.proofs.Levels.{subexpression_view-roll, element_view-Expression}
use Rattle.handlebars_template.proofs.template.tree.Subexpression.new.Goals as goal

pub returns : goal.returns
returns c =
    subexpression_view-roll c.in_ok-element.element ∙ ap element_view c.in_ok-element.ensures.ok
    ∙ element_view-Expression c.in_ok-boxed.field-0 ∙ ap escaped_expression c.in_ok-boxed.ensures
    ∙ search (rules, the_lemmas)
