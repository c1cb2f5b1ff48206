use Rattle.std.proofs.Common.{sym, map}
use Rattle.handlebars_template.proofs.Trees.{tree_view-out}
use Rattle.handlebars_template.specs.TreeView.{position_of}
use Rattle.handlebars_includes.specs.FrameView.{frame_of}
use Rattle.handlebars_includes.proofs.Elements.{position-found}
use Rattle.handlebars_includes.proofs.Named.{element-goes, elements-end}
use Rattle.handlebars_includes.proofs.hidden.+tree.Goals as goal

pub add_tree-elements-preserved : goal.add_tree-elements-preserved
add_tree-elements-preserved t c =
    let found = rw c.deref.ensures.value at (position-found c.deref.result.now c.elements.place _ c.get.result
    c.get.ensures.lookup.1 c.get.ensures.lookup.3 c.copied.result c.copied.ensures) in
    element-goes c.args.index (map frame_of c.args.frames.now) (map position_of c.args.template.now.mapping.items)
    c.deref-element-items.result.now c.elements.place
    c.element-item.result c.args.names.now.items c.elements.names.items c.add_element.new.names.items
    c.elements-test.true c.element-item.is c.elements.invariant (rw found at c.in_ok-add_element.ensures)

pub add_tree-returns : goal.add_tree-returns
add_tree-returns t c =
    rw (tree_view-out c.args.template.now, sym c.deref-element-items.ensures.value)
    (elements-end c.args.index (map frame_of c.args.frames.now) (map position_of c.args.template.now.mapping.items)
    c.deref-element-items.result.now c.elements.place
    c.args.names.now.items c.elements.names.items c.elements-test.false c.elements.invariant)
