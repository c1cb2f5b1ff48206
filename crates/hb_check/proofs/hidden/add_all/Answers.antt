use Rattle.std.proofs.Common.{None, [], get_or, map, take}
use Rattle.handlebars_includes.specs.FrameView.{hidden_of}
use Rattle.handlebars_includes.specs.View.{name_of}
use Rattle.handlebars_includes.specs.declared.hidden.HiddenName.{HiddenName}
use Rattle.hb_check.specs.Several.{ReportsHidden}
use Rattle.hb_check.proofs.Reports.{adds-next, map-take_more_at}
use Rattle.hb_check.proofs.hidden.add_all.Goals as goal

pub hidden-preserved : goal.hidden-preserved
hidden-preserved c =
    let nothing : HiddenName = record {
      location = record { template = 0; position = None };
      name = record { ref_ptr = (0, 0); now = [] };
      tag = None;
    } in
    adds-next (ReportsHidden c.args.sources.now (map name_of c.args.templates.now))
    (map hidden_of (take c.hidden.name-index c.args.hidden.now)) _ (hidden_of (get_or c.args.hidden.now c.hidden.name-index nothing)) c.args.problems.now.items
    c.hidden.problems.items _
    (map-take_more_at hidden_of c.args.hidden.now c.hidden.name-index nothing c.hidden-test.true)
    c.hidden.invariant c.in_ok-add_one.ensures
