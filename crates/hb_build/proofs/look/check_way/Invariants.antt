use Rattle.std.proofs.Common.{◌≡◌, ℕ, ◌<◌, get_or, take}
use Rattle.hb_build.specs.Entries.{IsFolderOrFree}
use Rattle.hb_build.specs.Passes.{IsPreserved}
use Rattle.hb_build.proofs.look.check_way.Given as goal

-- nothing is in the way of the folders so far
abbrev pub invariant-loop-end : goal.invariant-loop-end
invariant-loop-end g l = record {
  kept : IsPreserved g.S.Store l.fn.store l.store;
  free : g.S.Store.reliable l.store → (j : ℕ) → j < l.end → get_or l.name j 0 ≡ 47 → IsFolderOrFree (g.S.Store.entries l.fn.store (take j l.name));
}
