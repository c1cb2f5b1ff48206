-- What the code finds, as a value with its origin.
use Rattle.std.specs.Prelude.{◌≡◌, ◌++◌, List, [], None, Option, Some, option_map, Result, Ok, Err, string_bytes}
use denote.Ref.{Bor}
use Rattle.serde_json.specs.Data.{Data}
use Rattle.serde_json.specs.View.{view}
use Rattle.handlebars_base.specs.Answers.{Answer, gives, fails, fails_for}
use Rattle.handlebars_base.specs.Bytes.{Text}
use Rattle.handlebars_base.specs.Reasons.{invalid_json_index}
use Rattle.handlebars_base.specs.Scoped.{Found, walked, value, missing}
use Rattle.handlebars_base.specs.PathView.{segments_of}
use Rattle.serde_json.specs.declared.value.Value as json
use Rattle.handlebars_scope.specs.Resolve.{Resolution, along, in_block_value, names_of, under_prefix}
use Rattle.handlebars_scope.specs.ResolutionView.{names_in}
use Rattle.handlebars_scope.specs.Scopes as scopes
use Rattle.handlebars_scope.specs.Scopes.{Frame}
use Rattle.handlebars_layers.specs.Chain.{frames_from, names_at}
use Rattle.handlebars_layers.specs.FrameValues.{value_data}
use Rattle.handlebars_layers.specs.LayerView.{descent_names, chain_of}
use Rattle.handlebars_layers.specs.declared.scopes.Scopes as code
use Rattle.handlebars_layers.specs.declared.resolution.Resolution as code_resolution
use Rattle.handlebars_layers.specs.declared.resolution.Resolution.TheVariants as resolution
use Rattle.handlebars_layers.specs.declared.destination.Bound.{Bound}
use Rattle.handlebars_layers.specs.declared.destination.Bound.TheVariants as bound
use Rattle.handlebars_layers.specs.declared.destination.FrameValue.{FrameValue}
use Rattle.handlebars_layers.specs.declared.destination.FoundInData.{FoundInData}
use Rattle.handlebars_layers.specs.declared.destination.FoundInData.TheVariants as in_data
use Rattle.handlebars_layers.specs.declared.destination.Route.{Route}
use Rattle.handlebars_layers.specs.declared.destination.Destination.{Destination}
use Rattle.handlebars_layers.specs.declared.destination.Destination.TheVariants.{Node, Value, Nothing, NoIndex}

-- the frames, nearest first
abbrev pub frames_in : code.Scopes → List Frame
frames_in s = frames_from (chain_of s.nearest.now) s.skipped

abbrev pub given_in : code.Scopes → Data
given_in s = view s.given.now

-- the names of a route, from the data
abbrev pub route_names : Route → List Text
route_names r = names_at (frames_in r.start) ++ descent_names r.descent

abbrev pub bound_view : Bound → scopes.Bound
bound_view (bound.Path names) = scopes.bound_path (names_in names.now)
bound_view (bound.Value v) = scopes.bound_value (value_data v)

-- the names that lead to what was found, if it is a value of the data
abbrev pub names_found : Answer Found → List Text
names_found (gives (walked d names)) = names
names_found (gives (value d)) = []
names_found (gives missing) = []
names_found (fails r) = []

-- what the code found, with the names that lead to it if it is a value of the data
abbrev pub destination_of : List Text → Destination → Answer Found
destination_of names (Node node) = gives (walked (view node.now) names)
destination_of names (Value v) = gives (value (value_data v))
destination_of names Nothing = gives missing
destination_of names (NoIndex name) = fails_for (invalid_json_index name.now)

-- The code found what the definition finds. The definition alone has the names that lead to a value of the data.
abbrev pub IsDestination : Answer Found → Destination → Type 0
IsDestination sought found = destination_of (names_found sought) found ≡ sought

-- a value of other data alone, without a path
abbrev pub found_in_data : FoundInData → Answer (Option Data)
found_in_data (in_data.Data v) = gives (Some (view v.now))
found_in_data (in_data.Frame v) = gives (Some (value_data v))
found_in_data in_data.Nothing = gives None
found_in_data (in_data.NoIndex name) = fails_for (invalid_json_index (string_bytes name))

-- ---- resolutions

abbrev pub layer_resolution : code_resolution.Resolution → Resolution
layer_resolution (resolution.Within v rest) = in_block_value (value_data v) (names_of (segments_of rest.now))
layer_resolution (resolution.Along start bound rest) =
    along (names_at (frames_in start) ++ (names_in bound.now ++ names_of (segments_of rest.now)))
layer_resolution (resolution.UnderPrefix start name) = under_prefix (names_at (frames_in start)) (string_bytes name.now)

-- A resolution from a frame is one in these data.
abbrev pub IsInData : code_resolution.Resolution → Bor json.Value → Type 0
IsInData (resolution.Within v rest) given = Unit {0}
IsInData (resolution.Along start bound rest) given = start.given ≡ given
IsInData (resolution.UnderPrefix start name) given = start.given ≡ given

-- what names lead to within a value, or an error for a name that isn't an index
abbrev pub within_of : Result (Option FrameValue) (Bor Text) → Answer (Option Data)
within_of (Ok found) = gives (option_map value_data found)
within_of (Err name) = fails_for (invalid_json_index name.now)
