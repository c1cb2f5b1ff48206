use Rattle.std.proofs.Common.{ap, sym, ◌∙◌, ◌++◌, List, map, option_map}
use Rattle.handlebars_template.proofs.Trees.{tree_view-out}
use Rattle.handlebars_template.specs.Tree.{tree_name}
use Rattle.handlebars_template.specs.TreeView.{elements_view, position_of, tree_view}
use Rattle.handlebars_template.specs.declared.template.tree.TemplateElement.{TemplateElement}
use Rattle.handlebars_markup.proofs.Walked.{position-found}
use Rattle.handlebars_names.specs.Check.{elements_findings}
use Rattle.handlebars_names.specs.Faults.{Finding}
use Rattle.handlebars_names.specs.NamesView.{finding_of, names_at, scope_of, table_at}
use Rattle.handlebars_names.proofs.Walked.{element-goes, elements-end, tree-is}
use Rattle.handlebars_names.proofs.tree.+tree.Goals as goal

pub check_tree-elements-preserved : goal.check_tree-elements-preserved
check_tree-elements-preserved g t c =
    let found = rw c.deref.ensures.value at (position-found c.deref.result.now c.elements.index _ c.get.result
    c.get.ensures.lookup.1 c.get.ensures.lookup.3 c.copied.result c.copied.ensures) in
    element-goes (names_at (g.E.UserParts.registered c.args.entries.now) c.args.known) (table_at c.args.known)
    (option_map (λ s. s.now) c.args.name) (tree_name (tree_view c.args.template.now))
    (map position_of c.args.template.now.mapping.items) c.deref-element-items.result.now c.elements.index c.element-item.result
    (scope_of c.args.scope.now) (scope_of c.elements.here) (scope_of c.add_element.new.scope) c.args.findings.now.items
    c.elements.findings.items c.check_element.new.findings.items c.elements-test.true c.element-item.is c.elements.invariant
    (rw (found, c.name_of-current.ensures) at c.in_ok-check_element.ensures) c.in_ok-add_element.ensures

pub check_tree-returns : goal.check_tree-returns
check_tree-returns g t c =
    let names = names_at (g.E.UserParts.registered c.args.entries.now) c.args.known in
    let at = option_map (λ s. s.now) c.args.name in
    let x = tree_view c.args.template.now in
    let ps = map position_of c.args.template.now.mapping.items in
    let es = c.deref-element-items.result.now in
    let h = scope_of c.args.scope.now in
    elements-end names (table_at c.args.known) at (tree_name x) ps es c.elements.index h (scope_of c.elements.here)
    c.args.findings.now.items c.elements.findings.items c.elements-test.false c.elements.invariant
    ∙ ap (λ (fs : List Finding). map finding_of c.args.findings.now.items ++ fs)
    (ap (λ (zs : List TemplateElement). elements_findings names (table_at c.args.known) at (tree_name x) ps (elements_view zs) h)
    c.deref-element-items.ensures.value
    ∙ sym (tree-is names (table_at c.args.known) at (tree_name x) ps es x _ _ _ h (tree_view-out c.args.template.now)))
