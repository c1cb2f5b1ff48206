use Rattle.std.proofs.Common.{None, false, get_or, map, take}
use Rattle.handlebars_includes.specs.View.{name_of, tag_of}
use Rattle.handlebars_includes.specs.declared.circles.Circle.{Circle}
use Rattle.hb_check.specs.Several.{ReportsCircle}
use Rattle.hb_check.proofs.Reports.{adds-next, map-take_more_at}
use Rattle.hb_check.proofs.circles.add_all.Goals as goal

pub circles-preserved : goal.circles-preserved
circles-preserved c =
    let nothing : Circle = record {
      template = 0;
      inclusion = record { target = 0; position = None; always = false };
    } in
    adds-next (ReportsCircle c.args.sources.now (map name_of c.args.templates.now))
    (map tag_of (take c.circles.circle-index c.args.circles.now)) _ (tag_of (get_or c.args.circles.now c.circles.circle-index nothing)) c.args.problems.now.items
    c.circles.problems.items _
    (map-take_more_at tag_of c.args.circles.now c.circles.circle-index nothing c.circles-test.true)
    c.circles.invariant c.in_ok-add_one.ensures
