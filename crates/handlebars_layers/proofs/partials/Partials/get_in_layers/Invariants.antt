use Rattle.std.proofs.Common.{◌≡◌, ◌≤◌, length}
use Rattle.handlebars_layers.specs.NearestPartial.{nearest_partial}
use Rattle.handlebars_layers.specs.PartialsByDepth.{partials_at}
use Rattle.handlebars_layers.specs.RisingDepths.{Rises, depths_of}
use Rattle.handlebars_layers.proofs.partials.Partials.get_in_layers.Given as goal

-- no entry after those that are left decides
abbrev pub invariant-loop-left : goal.invariant-loop-left
invariant-loop-left l = record {
  nearest : nearest_partial (partials_at l.left) l.depth l.name ≡ nearest_partial (partials_at l.self.all.items) l.depth l.name;
  rising : Rises 1 (depths_of l.left);
  within : length l.left ≤ length l.self.all.items;
}

abbrev pub decreases-loop-left : goal.decreases-loop-left
decreases-loop-left l = length l.left
