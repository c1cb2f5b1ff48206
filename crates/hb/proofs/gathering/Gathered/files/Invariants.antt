use Rattle.std.proofs.Common.{◌≡◌, map, take}
use Rattle.hb.specs.Checks.{file_text, owned_text}
use Rattle.hb.proofs.gathering.Gathered.files.Given as goal

abbrev pub invariant-files : goal.invariant-files
invariant-files l = map file_text l.files.items ≡ map owned_text (take l.file-index l.file-items)
