use Rattle.std.proofs.Common.{◌-◌, map, subst, sym, ◌∙◌}
use Rattle.std.proofs.lemmas.Iterator.{YieldsList-from_chars, YieldsList-from_take}
use Rattle.std.proofs.lemmas.Iterator.Consumers.{YieldsList-end}
use Rattle.std.specs.Fmt.{HasWritten}
use Rattle.handlebars_report.specs.Text.{under}
use Rattle.handlebars_report.proofs.Positions.{map-same}
use Rattle.handlebars_report.proofs.text.write_under.Goals as goal

pub returns : goal.returns
returns g c = λ plain ok.
    let n = c.args.column - 1 in
    let list = YieldsList-from_take n (YieldsList-from_chars c.args.line.now c.utf8.line cc) cc in
    let all = YieldsList-end list c.chars.yielded _ c.chars.yielded_by _ _ c.in-None.is c.next.ensures.steps in
    subst (λ cs. HasWritten g.W.Write.write_str_gives c.args.f.now (map under cs) c.chars.f) (sym (map-same c.chars.yielded) ∙ all.0) (c.chars.invariant plain)
