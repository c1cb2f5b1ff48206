use Rattle.std.proofs.Common.{replicate}
use Rattle.std.specs.Fmt.{HasWritten, IsPlainFormatter}
use Rattle.handlebars_report.proofs.text.write_repeated.Given as goal

abbrev pub invariant-times : goal.invariant-times
invariant-times g l = IsPlainFormatter l.initial.f → HasWritten g.W.Write.write_str_gives l.initial.f (replicate l._i l.c) l.f
