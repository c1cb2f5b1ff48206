use Rattle.std.proofs.Common.{ap, arith, subst, sym, ◌∙◌}
use Rattle.std.proofs.lemmas.Iterator.{YieldsList-from_chars}
use Rattle.std.proofs.lemmas.Iterator.Consumers.{YieldsList-end, YieldsList-so_far}
use Rattle.handlebars_report.specs.Position.{position_after}
use Rattle.handlebars_report.specs.Stepping.{HasRoom, stepped}
use Rattle.handlebars_report.proofs.Positions.{HasRoom-so_far, map-same, position_after-push}
use Rattle.handlebars_report.proofs.position.Position.after.Goals as goal

pub step-position-requires : goal.step-position-requires
step-position-requires c =
    let cs = c.chars.yielded in
    let so_far = YieldsList-so_far (YieldsList-from_chars c.args.before.now c.utf8.before cc) cs _ c.chars.yielded_by in
    subst HasRoom (sym c.chars.invariant) (HasRoom-so_far c.args.before.now cs c.utf8.before (sym (map-same cs) ∙ so_far) (omega arith))

pub chars-preserved : goal.chars-preserved
chars-preserved c =
    c.step-position.ensures ∙ ap (λ p. stepped p c.in-Some.c) c.chars.invariant ∙ sym (position_after-push c.chars.yielded c.in-Some.c)

pub returns : goal.returns
returns c =
    let all = YieldsList-end (YieldsList-from_chars c.args.before.now c.utf8.before cc) c.chars.yielded _ c.chars.yielded_by _ _ c.in-None.is c.next.ensures.steps in
    c.chars.invariant ∙ ap position_after (sym (map-same c.chars.yielded) ∙ all.0)
