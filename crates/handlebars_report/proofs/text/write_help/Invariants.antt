use Rattle.std.proofs.Common.{flat_map, map, string_bytes, take}
use Rattle.std.specs.Fmt.{HasWritten, IsPlainFormatter}
use Rattle.handlebars_report.specs.Text.{help_line}
use Rattle.handlebars_report.proofs.text.write_help.Given as goal

abbrev pub invariant-help : goal.invariant-help
invariant-help g l = IsPlainFormatter l.initial.f
    → HasWritten g.W.Write.write_str_gives l.initial.f (flat_map (help_line l.margin.0) (map string_bytes (take l.text-index l.help))) l.f
