use Rattle.std.proofs.Common.{◌≡◌, map, take}
use Rattle.handlebars_template.specs.TreeView.{position_of}
use Rattle.handlebars_template.proofs.template.copy.copied_mapping.Given as goal

abbrev pub invariant-positions : goal.invariant-positions
invariant-positions l = map position_of l.copies.items ≡ map position_of (take l.position-index l.position-items)
