use Rattle.std.proofs.Common.{◌++◌, string_bytes, take}
use Rattle.serde_json.specs.Data.{Data}
use Rattle.handlebars_scope.specs.ResolutionView.{names_in}
use Rattle.handlebars_layers.specs.Hits.{Walked}
use Rattle.handlebars_layers.specs.LayerView.{after_names}
use Rattle.handlebars_layers.proofs.descents.along_names.Given as goal

-- the walk has come along the names so far
abbrev pub invariant-names : goal.invariant-names
invariant-names l = (d : Data) → Walked d (string_bytes l.name) (after_names l.after) l.walk
    → Walked d (string_bytes l.name) (after_names l.after ++ names_in (take l.index l.bound)) l.here
