use Rattle.std.proofs.Common.{◌++◌, string_bytes, take}
use Rattle.serde_json.specs.Data.{Data}
use Rattle.handlebars_base.specs.PathView.{segments_of}
use Rattle.handlebars_scope.specs.Resolve.{names_of}
use Rattle.handlebars_scope.specs.ResolutionView.{names_in}
use Rattle.handlebars_layers.specs.Hits.{Walked}
use Rattle.handlebars_layers.specs.LayerView.{after_names}
use Rattle.handlebars_layers.proofs.descents.along_segments.Given as goal

-- the walk has come along the names so far
abbrev pub invariant-segments : goal.invariant-segments
invariant-segments l = (d : Data) → Walked d (string_bytes l.name) (after_names l.after ++ names_in l.bound) l.walk
    → Walked d (string_bytes l.name) ((after_names l.after ++ names_in l.bound) ++ names_of (segments_of (take l.index l.rest))) l.here
