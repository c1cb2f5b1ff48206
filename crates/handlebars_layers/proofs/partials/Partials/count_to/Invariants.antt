use Rattle.std.proofs.Common.{◌≡◌, length, take}
use Rattle.handlebars_layers.specs.PartialsByDepth.{kept_to}
use Rattle.handlebars_layers.specs.RisingDepths.{Rises, depths_of}
use Rattle.handlebars_layers.proofs.partials.Partials.count_to.Given as goal

-- what is left is a prefix of all entries, and every entry after it is deeper
abbrev pub invariant-loop-left : goal.invariant-loop-left
invariant-loop-left l = record {
  prefix : take (length l.left) l.self.all.items ≡ l.left;
  kept : kept_to l.depth l.left ≡ kept_to l.depth l.self.all.items;
  rising : Rises 1 (depths_of l.left);
}

abbrev pub decreases-loop-left : goal.decreases-loop-left
decreases-loop-left l = length l.left
