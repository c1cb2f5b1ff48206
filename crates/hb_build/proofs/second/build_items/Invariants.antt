use Rattle.hb_build.specs.Name.{names_of}
use Rattle.hb_build.proofs.SecondPass.{IsSofar}
use Rattle.hb_build.proofs.second.build_items.Given as goal

-- the items so far are built
abbrev pub invariant-loop-item : goal.invariant-loop-item
invariant-loop-item g l = IsSofar g.P.Pages g.S.Store g.R.Report l.settings (names_of l.names) l.fn.pages l.pages l.fn.store l.store l.fn.report l.report l.item l.summary
