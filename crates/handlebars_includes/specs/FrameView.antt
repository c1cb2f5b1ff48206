-- How the definitions view the code's scope frames, and what it says of names in them.
use Rattle.std.specs.Prelude.{◌≡◌, List, ◌++◌, map}
use Rattle.handlebars_template.specs.TreeView.{block_param_view, hash_view}
use Rattle.handlebars_includes.specs.Frames as frames
use Rattle.handlebars_includes.specs.Hidden as hidden
use Rattle.handlebars_includes.specs.View.{position_in}
use Rattle.handlebars_includes.specs.declared.frame.Frame.{Frame}
use Rattle.handlebars_includes.specs.declared.frame.Frame.TheVariants as frame
use Rattle.handlebars_includes.specs.declared.frame.Seen.{Seen}
use Rattle.handlebars_includes.specs.declared.frame.Seen.TheVariants as seen
use Rattle.handlebars_includes.specs.declared.hidden.HiddenName.{HiddenName}
use Rattle.handlebars_includes.specs.declared.hidden.Location.{Location}

abbrev pub frame_of : Frame → frames.Frame
frame_of (frame.Block bars) = frames.of_block (frames.bar_names (block_param_view bars.now))
frame_of (frame.Call moves hash position) = frames.of_call moves (frames.hash_keys (hash_view hash.now.entries)) (position_in position)
frame_of frame.Inline = frames.of_inline

abbrev pub seen_of : Seen → frames.Hiding
seen_of seen.Shown = frames.shown
seen_of (seen.HiddenBy position) = frames.hidden_by (position_in position)

abbrev pub location_of : Location → hidden.Location
location_of l = record { template = l.template; position = position_in l.position }

abbrev pub hidden_of : HiddenName → hidden.HiddenName
hidden_of x = record { location = location_of x.location; name = x.name.now; tag = position_in x.tag }

-- These names are added, in order, to those that there were.
abbrev pub AddsNames : List HiddenName → List HiddenName → List hidden.HiddenName → Type 0
AddsNames before after found = map hidden_of after ≡ map hidden_of before ++ found
