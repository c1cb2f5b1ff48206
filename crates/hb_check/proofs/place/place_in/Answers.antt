use Rattle.handlebars_report.specs.View.{place_view}
use Rattle.hb_check.proofs.Floors.{at-range}
use Rattle.hb_check.proofs.place.place_in.Goals as goal

pub returns : goal.returns
returns c =
    at-range c.args.path.now c.args.text.now c.args.line c.args.column c.in_ok-range.range.start c.in_ok-range.range.end
    (place_view c.in_ok-place.place) c.in_ok-place.ensures.lies c.in_ok-place.ensures.start c.in_ok-place.ensures.end
    c.in_ok-range.ensures.tag c.in_ok-range.ensures.lies
