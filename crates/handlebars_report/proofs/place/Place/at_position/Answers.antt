use Rattle.handlebars_report.proofs.Offsets.{IsCharBoundary-from_IsOffsetOf}
use Rattle.handlebars_report.proofs.place.Place.at_position.Goals as goal

pub between-requires-clause-starts : goal.between-requires-clause-starts
between-requires-clause-starts c = IsCharBoundary-from_IsOffsetOf c.args.text.now _ _ c.offset_of-offset.result c.utf8.text c.offset_of-offset.ensures

pub between-requires-clause-ends : goal.between-requires-clause-ends
between-requires-clause-ends c = IsCharBoundary-from_IsOffsetOf c.args.text.now _ _ c.offset_of-offset.result c.utf8.text c.offset_of-offset.ensures
