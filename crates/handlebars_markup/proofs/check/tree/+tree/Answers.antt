use Rattle.std.proofs.Common.{sym, map, option_map}
use Rattle.handlebars_template.proofs.Trees.{tree_view-out}
use Rattle.handlebars_template.specs.TreeView.{position_of}
use Rattle.handlebars_markup.proofs.Walked.{element-goes, elements-end, position-found}
use Rattle.handlebars_markup.proofs.check.tree.+tree.Goals as goal

pub check_tree-elements-preserved : goal.check_tree-elements-preserved
check_tree-elements-preserved g t c =
    let found = rw c.deref.ensures.value at (position-found c.deref.result.now c.elements.index _ c.get.result
    c.get.ensures.lookup.1 c.get.ensures.lookup.3 c.copied.result c.copied.ensures) in
    element-goes (g.E.UserParts.registered c.args.entries.now) (option_map (λ s. s.now) c.args.name)
    (map position_of c.args.template.now.mapping.items) c.deref-element-items.result.now c.elements.index c.element-item.result
    c.args.faults.now.items c.elements.faults.items c.check_element.new.faults.items
    c.elements-test.true c.element-item.is c.elements.invariant (rw found at c.in_ok-check_element.ensures)

pub check_tree-returns : goal.check_tree-returns
check_tree-returns g t c =
    rw (tree_view-out c.args.template.now, sym c.deref-element-items.ensures.value)
    (elements-end (g.E.UserParts.registered c.args.entries.now) (option_map (λ s. s.now) c.args.name)
    (map position_of c.args.template.now.mapping.items) c.deref-element-items.result.now c.elements.index
    c.args.faults.now.items c.elements.faults.items c.elements-test.false c.elements.invariant)
