use Rattle.std.proofs.Common.{◌≡◌, map, take}
use Rattle.handlebars_base.specs.PathView.{segment_of}
use Rattle.handlebars_template.proofs.template.copy.copied_segments.Given as goal

abbrev pub invariant-segments : goal.invariant-segments
invariant-segments l = map segment_of l.copies.items ≡ map segment_of (take l.segment-index l.segment-items)
