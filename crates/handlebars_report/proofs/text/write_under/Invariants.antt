use Rattle.std.proofs.Common.{map}
use Rattle.std.specs.Fmt.{HasWritten, IsPlainFormatter}
use Rattle.handlebars_report.specs.Text.{under}
use Rattle.handlebars_report.proofs.text.write_under.Given as goal

abbrev pub invariant-chars : goal.invariant-chars
invariant-chars g l = IsPlainFormatter l.initial.f → HasWritten g.W.Write.write_str_gives l.initial.f (map under l.yielded) l.f
