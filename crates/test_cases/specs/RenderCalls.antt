-- Which render calls a test case asks for.
use Rattle.std.specs.Prelude.{Bool, true, false, ◌&&◌, Option, None, Some, is_none}
use Rattle.test_cases.specs.declared.rendering.Over.{Over}
use Rattle.test_cases.specs.declared.rendering.Over.TheVariants.{Context, Value}
use Rattle.test_cases.specs.declared.rendering.Rendering.{Rendering}

-- Whether a test case asks for renderings over this. One that has no `over` asks for both.
abbrev pub is_meant : Option Over → Over → Bool
is_meant None over = true
is_meant (Some Context) Context = true
is_meant (Some Context) Value = false
is_meant (Some Value) Context = false
is_meant (Some Value) Value = true

abbrev pub is_rendered_over : Over → Rendering → Bool
is_rendered_over over r = is_meant r.over over

-- The calls that return a text: unless the test case bounds its output or has a writer.
abbrev pub has_text : Rendering → Bool
has_text r = is_none r.takes && is_none r.to

-- The calls that write: unless the test case bounds its output.
abbrev pub has_writer : Rendering → Bool
has_writer r = is_none r.takes

-- The call that emits pieces: it has no writer, and renders over a context.
abbrev pub has_pieces : Rendering → Bool
has_pieces r = has_text r && is_rendered_over Context r

-- A template's own rendering to an output: it has no reader, no writer and no data to convert.
abbrev pub has_output : Rendering → Bool
has_output r = is_none r.files && (is_none r.steps && (is_none r.to && is_rendered_over Context r))
