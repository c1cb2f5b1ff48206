-- Worked partials, in hand-built templates, each with what it writes or why it fails.
use Rattle.std.specs.Prelude.{◌≡◌, ℕ, List, [], ◌∷◌, None, Some, Option, codes, true, false}
use Rattle.std.specs.Map.{lookup}
use Rattle.std.specs.Str.{bytes_eq}
use Rattle.serde_json.specs.Data.{Data, null, number, unsigned, string}
use Rattle.handlebars_base.specs.Bytes.{Text}
use Rattle.handlebars_base.specs.Path.{relative, variable}
use Rattle.handlebars_base.specs.Reasons.{Refusal, cannot_include_self, inclusion_limit, param_not_found_for_name, partial_block_not_found, partial_not_found}
use Rattle.handlebars_base.specs.RenderRefusals.{plain_refusal}
use Rattle.handlebars_template.specs.Tree.{Tree, tree, elements_of, Element, raw_string, escaped_expression, partial_expression, partial_block, decorator_block, decorator, DecoratorMarks, args, no_arguments, no_body, body, no_hash, hash_pair, no_params, name, path, literal, subexpression}
use Rattle.handlebars_semantics.specs.Answer.{FromName, GivesText, RenderAnswers}
use Rattle.handlebars_semantics.specs.Pieces.{Piece, join}
use Rattle.handlebars_semantics.specs.Runs.{Failed}
use Rattle.handlebars_semantics.specs.State.{Setting}
use Rattle.handlebars_examples.specs.DecoratorExamples.{inline_p}
use Rattle.handlebars_examples.specs.Examples.{block, call_with_params, first_parts, one_name_path, with}
use Rattle.handlebars_examples.specs.ScopeExamples.{array_of, natural}

-- ---- registries

-- trees under their names, and what is registered under one
abbrev pub Named : Type 0
Named = List (Text × Tree)

abbrev pub stored_in : Named → Text → Option Tree
stored_in templates n = lookup (bytes_eq n) templates

-- a run over data with these templates, and with this limit on how many partials may be nested
abbrev pub over_templates : ℕ → Named → Data → Setting
over_templates limit templates given =
    record { given = given; parts = record first_parts { template = stored_in templates; limit = limit } }

-- The tree renders to this text over data, with these templates.
abbrev pub Includes : Named → Data → Tree → Text → Type 0
Includes templates given t text =
    GivesText (over_templates 64 templates given) (FromName (λ n. Some t) (codes "main")) text

-- Rendering the tree fails with this error over any data, with nothing written.
abbrev pub RenderingFailsWith : ℕ → Named → Tree → Refusal → Type 0
RenderingFailsWith limit templates t r = (given : Data)
    → RenderAnswers (over_templates limit templates given) (FromName (λ n. Some t) (codes "main")) [] (Failed r)

-- Rendering the tree fails with this error after this text.
pub record RenderingFailsAfter (p : Setting) (t : Tree) (text : Text) (r : Refusal) : Type 0 where
  pub pieces : List Piece
  pub answers : RenderAnswers p (FromName (λ n. Some t) (codes "main")) pieces (Failed r)
  pub is : join pieces ≡ text

-- ---- trees

-- a template with a name, and one without
abbrev pub called : Text → List Element → Tree
called n es = tree (Some n) (elements_of es) []

abbrev pub unnamed_tree : List Element → Tree
unnamed_tree es = tree None (elements_of es) []

abbrev pub plain_tag : DecoratorMarks
plain_tag = record { indent = None; indent_before_write = false }

-- alone on its line, after these blanks
abbrev pub indented_by : Text → DecoratorMarks
indented_by blanks = record { indent = Some blanks; indent_before_write = true }

-- alone on its line, with no indentation
abbrev pub alone_on_line : DecoratorMarks
alone_on_line = record { indent = None; indent_before_write = true }

-- {{> n}}
abbrev pub includes : Text → Element
includes n = partial_expression (decorator (name n) no_arguments no_body plain_tag)

-- the same with these marks
abbrev pub includes_at : DecoratorMarks → Text → Element
includes_at marks n = partial_expression (decorator (name n) no_arguments no_body marks)

-- {{#> n}}..{{/n}}
abbrev pub includes_with : Text → List Element → Element
includes_with n es = partial_block (decorator (name n) no_arguments (body (unnamed_tree es)) plain_tag)

-- {{#*inline "p"}}..{{/inline}}
abbrev pub inline : List Element → Element
inline es = decorator_block (inline_p (unnamed_tree es))

abbrev pub show : Text → Element
show n = escaped_expression (call_with_params (one_name_path n) [])

abbrev pub captured_block : Element
captured_block = includes (codes "@partial-block")

-- ---- indentation

abbrev pub x_and_y : Named
x_and_y = (codes "p", called (codes "p") (raw_string (codes "x\ny\n") ∷ [])) ∷ []

-- Each line of a partial is indented as its tag is: a, and `{{> p}}` after two blanks on a line of its own, and b.
abbrev pub IndentedExample : Type 0
IndentedExample = Includes x_and_y null (unnamed_tree (raw_string (codes "a\n") ∷ includes_at (indented_by (codes "  ")) (codes "p")
    ∷ raw_string (codes "b") ∷ [])) (codes "a\n  x\n  y\nb")

-- If partials are not indented, the blanks before the tag are text.
abbrev pub NotIndentedExample : Type 0
NotIndentedExample = Includes x_and_y null (unnamed_tree (raw_string (codes "a\n  ") ∷ includes_at alone_on_line (codes "p")
    ∷ raw_string (codes "b") ∷ [])) (codes "a\n  x\ny\nb")

-- The indentation of a nested partial comes after that of the outer one. An empty line within a text is indented too.
abbrev pub NestedIndentExample : Type 0
NestedIndentExample = Includes
    ((
      codes "p",
      called (codes "p") (raw_string (codes "(\n") ∷ includes_at (indented_by (codes "  ")) (codes "q")
          ∷ raw_string (codes ")\n") ∷ []),
    )
    ∷ (codes "q", called (codes "q") (raw_string (codes "x\n\ny\n") ∷ [])) ∷ [])
    null (unnamed_tree (includes_at (indented_by (codes " ")) (codes "p") ∷ raw_string (codes "b") ∷ []))
    (codes " (\n   x\n   \n   y\n )\nb")

-- ---- what is found

-- No partial is found: {{> nope}}.
abbrev pub NotFoundExample : Type 0
NotFoundExample = RenderingFailsWith 64 [] (unnamed_tree (includes (codes "nope") ∷ []))
    (plain_refusal (partial_not_found (codes "nope")))

-- If no partial is found, the tag's own block is rendered: {{#> nope}}d{{/nope}}.
abbrev pub OwnBlockExample : Type 0
OwnBlockExample = Includes [] null (unnamed_tree (includes_with (codes "nope") (raw_string (codes "d") ∷ []) ∷ [])) (codes "d")

-- A local partial comes before a registered one, and is dropped at the end of its block.
abbrev pub LocalExample : Type 0
LocalExample = Includes ((codes "p", called (codes "p") (raw_string (codes "R") ∷ [])) ∷ []) (with (codes "a") (natural 1))
    (unnamed_tree (block (codes "with") (one_name_path (codes "a") ∷ [])
    (body (unnamed_tree (inline (raw_string (codes "L") ∷ []) ∷ includes (codes "p") ∷ []))) no_body
    ∷ includes (codes "p") ∷ [])) (codes "LR")

-- The name may be the value of a call: {{> (lookup m "k")}}.
abbrev pub CalledNameExample : Type 0
CalledNameExample = Includes ((codes "p", called (codes "p") (raw_string (codes "x") ∷ [])) ∷ [])
    (with (codes "m") (with (codes "k") (string (codes "p"))))
    (unnamed_tree (partial_expression (decorator (subexpression (escaped_expression (call_with_params (name (codes "lookup"))
    (one_name_path (codes "m") ∷ literal (string (codes "k")) ∷ [])))) no_arguments no_body plain_tag) ∷ [])) (codes "x")

-- A partial that the first iteration of `each` sets is found in the next one.
abbrev pub NextIterationExample : Type 0
NextIterationExample = Includes [] (array_of (natural 1 ∷ natural 2 ∷ []))
    (unnamed_tree (block (codes "each") (path (relative [] (codes "this")) ∷ [])
    (body (unnamed_tree (block (codes "if") (path (variable 0 (codes "first") (codes "@first")) ∷ [])
    (body (unnamed_tree (inline (raw_string (codes "A") ∷ []) ∷ []))) no_body ∷ includes (codes "p") ∷ []))) no_body ∷ []))
    (codes "AA")

-- ---- the scope of a partial

-- A text with hash arguments is an object of its characters: {{> p tag="h1"}} over a text, where p is {{[1]}}{{tag}}.
abbrev pub MergedExample : Type 0
MergedExample = Includes ((codes "p", called (codes "p") (show (codes "1") ∷ show (codes "tag") ∷ [])) ∷ [])
    (string (codes "hello")) (unnamed_tree (partial_expression (decorator (name (codes "p"))
    (args no_params (hash_pair (codes "tag") (literal (string (codes "h1"))) no_hash)) no_body plain_tag) ∷ [])) (codes "eh1")

-- ---- blocks that are rendered ahead

abbrev pub layout : Named
layout = (
  codes "layout",
  called (codes "layout") (raw_string (codes "<b>") ∷ captured_block ∷ raw_string (codes "</b>") ∷ []),
) ∷ []

-- The block of a tag is rendered ahead, and its text is written where the partial asks for it.
abbrev pub LayoutExample : Type 0
LayoutExample = Includes layout (with (codes "x") (string (codes "<")))
    (unnamed_tree (includes_with (codes "layout") (show (codes "x") ∷ []) ∷ [])) (codes "<b>&lt;</b>")

-- A partial without a block has no captured text, even if the one around it has.
abbrev pub NoCapturedExample : Type 0
NoCapturedExample = RenderingFailsWith 64
    ((codes "l", called (codes "l") (includes (codes "q") ∷ []))
    ∷ (codes "q", tree (Some (codes "q")) (elements_of (captured_block ∷ [])) (record { line = 1; column = 1 } ∷ [])) ∷ [])
    (unnamed_tree (includes_with (codes "l") (raw_string (codes "d") ∷ []) ∷ []))
    (record {
      reason = partial_block_not_found;
      location = record { name = Some (codes "q"); line = Some 1; column = Some 1 };
    })

-- A block that fails when it is rendered ahead writes nothing.
abbrev pub FailedAheadExample : Type 0
FailedAheadExample = RenderingFailsWith 64 ((codes "p", called (codes "p") (raw_string (codes "x") ∷ [])) ∷ [])
    (unnamed_tree (includes_with (codes "p") (raw_string (codes "a") ∷ show (codes "len") ∷ []) ∷ []))
    (plain_refusal (param_not_found_for_name (codes "len") (codes "x")))

-- ---- names and the limit

-- The template that is being rendered can't be included.
abbrev pub SelfExample : Type 0
SelfExample = RenderingFailsWith 64 [] (called (codes "t") (includes (codes "t") ∷ []))
    (record { reason = cannot_include_self; location = record { name = Some (codes "t"); line = None; column = None } })

-- With a limit of 0 no partial is rendered.
abbrev pub LimitReachedExample : Type 0
LimitReachedExample = RenderingFailsWith 0 ((codes "p", called (codes "p") (raw_string (codes "x") ∷ [])) ∷ [])
    (unnamed_tree (includes (codes "p") ∷ [])) (plain_refusal (inclusion_limit 0))

-- After a block no name is current, so a template may include itself there, up to the limit.
abbrev pub self_after_block : Tree
self_after_block = called (codes "t") (block (codes "if") (literal (number (unsigned 1)) ∷ [])
    (body (unnamed_tree (raw_string (codes "x") ∷ []))) no_body ∷ includes (codes "t") ∷ [])

abbrev pub FullExample : Type 0
FullExample = (given : Data) → RenderingFailsAfter (over_templates 3 ((codes "t", self_after_block) ∷ []) given) self_after_block
    (codes "xxxx")
    (record { reason = inclusion_limit 3; location = record { name = Some (codes "t"); line = None; column = None } })
