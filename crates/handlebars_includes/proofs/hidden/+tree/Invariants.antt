use Rattle.std.proofs.Common.{map}
use Rattle.handlebars_template.specs.TreeView.{position_of}
use Rattle.handlebars_template.specs.declared.template.tree.Template.{out-Template}
use Rattle.handlebars_includes.specs.FrameView.{frame_of}
use Rattle.handlebars_includes.proofs.Named.{LeadsFrom}
use Rattle.handlebars_includes.proofs.hidden.+tree.Given as goal

abbrev pub invariant-add_tree-elements : goal.invariant-add_tree-elements
invariant-add_tree-elements l =
    LeadsFrom l.index (map frame_of l.frames) (map position_of (out-Template l.template).mapping.items) l.element-items l.place
    l.initial.names.items l.names.items
