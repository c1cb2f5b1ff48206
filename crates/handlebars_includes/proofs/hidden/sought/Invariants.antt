use Rattle.std.proofs.Common.{◌≡◌, drop}
use Rattle.handlebars_base.specs.PathView.{segments_of}
use Rattle.handlebars_includes.specs.Frames.{sought}
use Rattle.handlebars_includes.proofs.hidden.sought.Given as goal

-- Each segment so far is `..`.
abbrev pub invariant-segments : goal.invariant-segments
invariant-segments l = sought l.ups (segments_of (drop l.ups l.segments)) ≡ sought 0 (segments_of l.segments)
