use Rattle.std.proofs.Common.{take}
use Rattle.hb_check.specs.Compiled.{ReportsFiles}
use Rattle.hb_check.specs.Reported.{AddsSome}
use Rattle.hb_check.proofs.problems.compile_all.Given as goal

abbrev pub invariant-files : goal.invariant-files
invariant-files l = AddsSome (ReportsFiles (take l.file-index l.files) l.sources) l.fn.problems.items l.problems.items
