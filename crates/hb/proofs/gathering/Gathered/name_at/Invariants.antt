use Rattle.std.proofs.Common.{◌≡◌}
use Rattle.hb.proofs.gathering.Gathered.name_at.Given as goal

abbrev pub invariant-files : goal.invariant-files
invariant-files l = l.file-items ≡ l.self.files.items
