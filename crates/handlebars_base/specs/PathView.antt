-- What the paths of the program represent.
use Rattle.std.specs.Prelude.{List, map}
use Rattle.std.specs.String.{string_bytes}
use denote.Ref.{Bor}
use Rattle.handlebars_base.specs.Bytes.{Text}
use Rattle.handlebars_base.specs.Path.{Segment, named, root, local, up, Reference, relative, variable, PathPart, dots, plain, bracketed}
use Rattle.handlebars_base.specs.declared.json.path.PathRule.{PathRule}
use Rattle.handlebars_base.specs.declared.json.path.PathRule.TheVariants as rule
use Rattle.handlebars_base.specs.declared.json.path.PathSeg.{PathSeg}
use Rattle.handlebars_base.specs.declared.json.path.PathSeg.TheVariants.{Named, Ruled}
use Rattle.handlebars_base.specs.declared.json.path.Path.{Path}
use Rattle.handlebars_base.specs.declared.json.path.Path.TheVariants as path
use Rattle.handlebars_base.specs.declared.json.path.links.PathPart.{PathPart as ReadPart}
use Rattle.handlebars_base.specs.declared.json.path.links.PathPart.TheVariants as part
use Rattle.handlebars_base.specs.declared.json.path.start.Start.{Start as ReadStart}
use Rattle.handlebars_base.specs.declared.json.path.start.Start.TheVariants as start
use Rattle.handlebars_base.specs.declared.json.path.prefix.PathToken.{PathToken}
use Rattle.handlebars_base.specs.declared.json.path.prefix.PathPrefix.{PathPrefix}
use Rattle.handlebars_base.specs.PathReading.{Start, here, from_root, from_variable, from_part}

abbrev pub segment_of_rule : PathRule → Segment
segment_of_rule rule.Root = root
segment_of_rule rule.Local = local
segment_of_rule rule.Up = up

abbrev pub segment_of : PathSeg → Segment
segment_of (Named name) = named (string_bytes name)
segment_of (Ruled rule) = segment_of_rule rule

abbrev pub segments_of : List PathSeg → List Segment
segments_of segs = map segment_of segs

abbrev pub reference_of : Path → Reference
reference_of (path.Relative p) = relative (segments_of p.0.items) (string_bytes p.1)
reference_of (path.Local p) = variable p.0 (string_bytes p.1) (string_bytes p.2)

-- a part, wherever its text is stored
abbrev pub part_of : ReadPart → PathPart
part_of part.Up = dots
part_of (part.Plain name) = plain name.now
part_of (part.Bracketed name) = bracketed name.now

-- a part, and the text after it
abbrev pub found_at : ReadPart × Bor (Text) → PathPart × Text
found_at x = (part_of x.0, x.1.now)

abbrev pub start_of : ReadStart → Start
start_of start.Here = here
start_of start.Root = from_root
start_of (start.Variable level name) = from_variable level name.now
start_of (start.Part p) = from_part (part_of p)

-- a start, and the text after it
abbrev pub started_at : ReadStart × Bor Text → Start × Text
started_at x = (start_of x.0, x.1.now)

-- a path at the start of a text, and what follows it
abbrev pub prefix_of : PathPrefix → Reference × Text
prefix_of prefix = (reference_of prefix.path, prefix.rest.now)

-- the text of a path at the start of a text, and what follows it
abbrev pub path_token_of : PathToken → Text × Text
path_token_of token = (token.raw.now, token.rest.now)
