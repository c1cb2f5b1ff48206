use Rattle.std.proofs.Common.{◌≡◌, ◌<◌, length}
use Rattle.hb_build.specs.Entries.{MakesFolders, folder}
use Rattle.hb_build.specs.Name.{Name, IsFolderOf}
use Rattle.hb_build.specs.Passes.{Changes}
use Rattle.hb_build.proofs.place.make_folders.Given as goal

-- the folders so far are there
abbrev pub invariant-loop-end : goal.invariant-loop-end
invariant-loop-end g l = record {
  made : Changes g.S.Store (MakesFolders (λ q. IsFolderOf q l.name)) l.fn.store l.store;
  there : g.S.Store.reliable l.store → (f : Name) → IsFolderOf f l.name → length f < l.end → g.S.Store.entries l.store f ≡ folder;
}
