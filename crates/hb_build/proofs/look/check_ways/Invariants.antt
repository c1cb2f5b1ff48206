use Rattle.std.proofs.Common.{◌≡◌, ℕ, ◌<◌, Some, slice_get}
use Rattle.hb_build.specs.Entries.{IsClear}
use Rattle.hb_build.specs.Name.{Name, names_of}
use Rattle.hb_build.specs.Passes.{IsInShard, IsPreserved}
use Rattle.hb_build.proofs.look.check_ways.Given as goal

-- nothing is in the way of the items so far
abbrev pub invariant-loop-item : goal.invariant-loop-item
invariant-loop-item g l = record {
  kept : IsPreserved g.S.Store l.fn.store l.store;
  clear : g.S.Store.reliable l.store → (k : ℕ) (name : Name) → k < l.item → slice_get (names_of l.names) k ≡ Some name → IsInShard l.shard k
      → IsClear (g.S.Store.entries l.fn.store) name;
}
