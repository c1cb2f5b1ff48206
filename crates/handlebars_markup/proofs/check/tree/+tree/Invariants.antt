use Rattle.std.proofs.Common.{map, option_map}
use Rattle.handlebars_template.specs.TreeView.{position_of}
use Rattle.handlebars_template.specs.declared.template.tree.Template.{out-Template}
use Rattle.handlebars_markup.proofs.Walked.{LeadsFrom}
use Rattle.handlebars_markup.proofs.check.tree.+tree.Given as goal

abbrev pub invariant-check_tree-elements : goal.invariant-check_tree-elements
invariant-check_tree-elements g l =
    LeadsFrom (g.E.UserParts.registered l.entries) (option_map (λ s. s.now) l.name)
    (map position_of (out-Template l.template).mapping.items) l.element-items l.index l.initial.faults.items l.faults.items
