-- What the code's resolutions represent, and what they reach.
use Rattle.std.specs.Prelude.{ℕ, List, Option, Some, None, map, ◌++◌, String, string_bytes}
use Rattle.std.specs.declared.alloc.Global.{Global}
use denote.Ref.{Bor}
use Rattle.serde_json.specs.Data.{Data}
use Rattle.serde_json.specs.declared.value.Value.{Value}
use Rattle.serde_json.specs.View.{view}
use Rattle.handlebars_base.specs.Answers.{Answer, gives, fails_for}
use Rattle.handlebars_base.specs.Bytes.{Text}
use Rattle.handlebars_base.specs.PathView.{segments_of}
use Rattle.handlebars_base.specs.Reasons.{invalid_json_index}
use Rattle.handlebars_scope.specs.Resolve.{Resolution, in_block_value, along, under_prefix, names_of}
use Rattle.handlebars_scope.specs.declared.context.resolution.Resolution.{Resolution as CodeResolution}
use Rattle.handlebars_scope.specs.declared.context.resolution.Resolution.TheVariants.{Within, Along, UnderPrefix}
use Rattle.handlebars_scope.specs.declared.context.reached.Reached.{Reached}
use Rattle.handlebars_scope.specs.declared.context.reached.Reached.TheVariants as reach

-- texts as names
abbrev pub names_in : List (String Global) → List Text
names_in names = map string_bytes names

abbrev pub resolution_view : CodeResolution → Resolution
resolution_view (Within held rest) = in_block_value (view held.now) (names_of (segments_of rest.now))
resolution_view (Along base bound rest) = along (names_in base.now ++ (names_in bound.now ++ names_of (segments_of rest.now)))
resolution_view (UnderPrefix base name) = under_prefix (names_in base.now) (string_bytes name.now)

-- what was found under a prefix, and the number of names in that prefix
abbrev pub hit_of : ℕ × Bor Value → ℕ × Data
hit_of hit = (hit.0, view hit.1.now)

-- what names reach: a value, nothing, or an error for a name that isn't an index
abbrev pub reached_of : Reached → Answer (Option Data)
reached_of (reach.Value v) = gives (Some (view v.now))
reached_of reach.Nothing = gives None
reached_of (reach.NoIndex name) = fails_for (invalid_json_index name.now)
