use Rattle.std.proofs.Common.{◌≡◌, ◌++◌, drop}
use Rattle.handlebars_base.specs.PathView.{segments_of}
use Rattle.handlebars_scope.specs.Resolve.{names_of}
use Rattle.handlebars_scope.specs.ResolutionView.{names_in}
use Rattle.handlebars_scope.proofs.context.copied_path.push_segments.Given as goal

-- the names so far, and those of the segments that are left, are all
abbrev pub invariant-loop-segment : goal.invariant-loop-segment
invariant-loop-segment l =
    names_in l.path.items ++ names_of (segments_of (drop l.segment-index l.segments))
    ≡ names_in l.initial.path.items ++ names_of (segments_of l.segments)
