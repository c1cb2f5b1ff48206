use Rattle.std.proofs.Common.{refl, arith}
use Rattle.handlebars_includes.specs.Circles.{later, ends}
use Rattle.handlebars_includes.specs.View.{rows}
use Rattle.handlebars_includes.proofs.Circling.{closing, not-closing}
use Rattle.handlebars_includes.proofs.circles.add_circle.Goals.{else-inclusion-template-via-then-inclusion-template+in_ok-reaches+else-branch, else-inclusion-template-via-else-inclusion-template}
use Rattle.handlebars_includes.proofs.circles.add_circle.Goals as goal

pub returns-in_ok-push : goal.returns-in_ok-push
returns-in_ok-push c = λ within.
    closing (rows c.args.graph.now) c.args.template c.args.inclusion
    (record { template = c.args.template; inclusion = c.args.inclusion }) c.args.found.now.items c.push.new.self.items
    c.if-inclusion-template.true (c.in_ok-reaches.ensures.yes c.if-branch.true) refl c.in_ok-push.ensures.items

pub returns-else-inclusion-template : goal.returns-else-inclusion-template
returns-else-inclusion-template c = λ within.
    not-closing (rows c.args.graph.now) c.args.template c.args.inclusion c.args.found.now.items
    (elim c.else-inclusion-template.branch [
      | else-inclusion-template-via-then-inclusion-template+in_ok-reaches+else-branch w ↦ ends (w.in_ok-reaches.ensures.no w.if-branch.false within)
      | else-inclusion-template-via-else-inclusion-template w ↦ later (omega (arith, w.if-inclusion-template.false))
    ])
