use Rattle.std.proofs.Common.{◌≡◌, length}
use Rattle.hb_build.specs.Name.{names_of}
use Rattle.hb_build.specs.Passes.{IsBegun}
use Rattle.hb_build.proofs.first.collect_names.Given as goal

-- the names so far are those of the items so far
abbrev pub invariant-loop-item : goal.invariant-loop-item
invariant-loop-item g l = record {
  begun : IsBegun g.P.Pages l.fn.pages (names_of l.names.items) l.pages;
  number : length (names_of l.names.items) ≡ l.item;
}
