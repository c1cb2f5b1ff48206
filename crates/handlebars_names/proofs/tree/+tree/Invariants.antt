use Rattle.std.proofs.Common.{map, option_map}
use Rattle.handlebars_template.specs.Tree.{tree_name}
use Rattle.handlebars_template.specs.TreeView.{position_of, tree_view}
use Rattle.handlebars_template.specs.declared.template.tree.Template.{out-Template}
use Rattle.handlebars_names.specs.NamesView.{names_at, scope_of, table_at}
use Rattle.handlebars_names.proofs.Walked.{LeadsFrom}
use Rattle.handlebars_names.proofs.tree.+tree.Given as goal

abbrev pub invariant-check_tree-elements : goal.invariant-check_tree-elements
invariant-check_tree-elements g l =
    LeadsFrom (names_at (g.E.UserParts.registered l.entries) l.known) (table_at l.known) (option_map (λ s. s.now) l.name)
    (tree_name (tree_view l.template)) (map position_of (out-Template l.template).mapping.items) l.element-items l.index
    (scope_of l.scope) l.initial.findings.items (scope_of l.here) l.findings.items
