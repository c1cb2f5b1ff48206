use Rattle.std.proofs.Common.{map}
use Rattle.handlebars_template.specs.TreeView.{position_of}
use Rattle.handlebars_template.specs.declared.template.tree.Template.{out-Template}
use Rattle.handlebars_includes.proofs.Mentioned.{LeadsFrom}
use Rattle.handlebars_includes.proofs.mention.+tree.Given as goal

abbrev pub invariant-add_tree-elements : goal.invariant-add_tree-elements
invariant-add_tree-elements l =
    LeadsFrom l.always (map position_of (out-Template l.template).mapping.items) l.element-items l.index
    l.initial.mentions.items l.mentions.items
