use Rattle.std.proofs.Common.{◌≡◌, true, take}
use Rattle.std.specs.Prelude.{fold}
use Rattle.handlebars_template.proofs.Columns.{still_columns}
use Rattle.handlebars_template.proofs.template.position.are_columns.Given as goal

abbrev pub invariant-bytes : goal.invariant-bytes
invariant-bytes l = l.all ≡ fold still_columns true (take l.byte-index l.bytes)
