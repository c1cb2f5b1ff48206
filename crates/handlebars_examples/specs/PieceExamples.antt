-- A worked page, with the pieces of its output and the origin of each.
use Rattle.std.specs.Prelude.{◌≡◌, ℕ, true, List, [], ◌∷◌, None, Some, codes, map}
use Rattle.serde_json.specs.Data.{Data, string, array, item, no_items, object, member, no_members}
use Rattle.handlebars_base.specs.Bytes.{Text}
use Rattle.handlebars_base.specs.Scoped.{Found, value, walked}
use Rattle.handlebars_lexer.specs.Options.{no_options, named_options}
use Rattle.handlebars_template.specs.Calls.{plain_call}
use Rattle.handlebars_template.specs.Compile.{Compiles, compiled}
use Rattle.handlebars_template.specs.Position.{Position}
use Rattle.handlebars_template.specs.Tree.{Tree, tree, elements_of, raw_string, html_expression, escaped_expression, args, no_arguments, no_params, param, no_hash, name, literal}
use Rattle.handlebars_semantics.specs.Answer.{Beginning, FromSource, RenderAnswers}
use Rattle.handlebars_semantics.specs.Pieces.{Origin, of_text, of_value, of_raw, of_boolean_text, of_indent, Piece}
use Rattle.handlebars_semantics.specs.Runs.{Ended}
use Rattle.handlebars_semantics.specs.Occurrences.{as_part, as_iteration, the_first, the_included, Occurrence, Whereabouts, first_tree, body_at, included_at, element_in}
use Rattle.handlebars_semantics.specs.State.{Setting, State}
use Rattle.handlebars_semantics.specs.Emitted.{escaped_value, indentation, provenance, template_text, emitted}
use Rattle.handlebars_examples.specs.InclusionExamples.{Named, over_templates, plain_tag, includes_at}
use Rattle.handlebars_examples.specs.ScopeExamples.{natural}
use Rattle.handlebars_examples.specs.SourceExamples.{at, path_to}

-- ---- the templates

-- a layout
abbrev pub layout_source : Text
layout_source = codes "<main>\n{{> @partial-block}}</main>\n"

abbrev pub layout_tree : Tree
layout_tree = tree (Some (codes "page"))
    (elements_of (raw_string (codes "<main>\n") ∷ includes_at plain_tag (codes "@partial-block")
    ∷ raw_string (codes "</main>\n") ∷ []))
    (at 1 1 ∷ at 2 1 ∷ at 2 21 ∷ [])

-- a partial, with a value, an html expression and a boolean helper
abbrev pub item_source : Text
item_source = codes "{{name}}\n{{{note}}}: {{gt n 1}}\n"

abbrev pub item_tree : Tree
item_tree = tree (Some (codes "item"))
    (elements_of (escaped_expression (plain_call (path_to (codes "name")) no_arguments) ∷ raw_string (codes "\n")
    ∷ html_expression (plain_call (path_to (codes "note")) no_arguments) ∷ raw_string (codes ": ")
    ∷ escaped_expression (plain_call (name (codes "gt"))
    (args (param (path_to (codes "n")) (param (literal (natural 1)) no_params)) no_hash))
    ∷ raw_string (codes "\n") ∷ []))
    (at 1 1 ∷ at 1 9 ∷ at 2 1 ∷ at 2 11 ∷ at 2 13 ∷ at 2 23 ∷ [])

-- the page, which includes the partial in the block that it gives the layout
abbrev pub page_source : Text
page_source = codes "{{#> page}}\n  {{> item}}\n{{/page}}"

-- what is registered
abbrev pub registered : Named
registered = (codes "page", layout_tree) ∷ (codes "item", item_tree) ∷ []

-- The trees that are registered are those of these sources, under their names.
abbrev pub LayoutSourceExample : Type 0
LayoutSourceExample = Compiles layout_source (named_options (codes "page")) (compiled layout_tree)

abbrev pub ItemSourceExample : Type 0
ItemSourceExample = Compiles item_source (named_options (codes "item")) (compiled item_tree)

-- ---- the output

abbrev pub page_data : Data
page_data = object (member (codes "n") (natural 2)
    (member (codes "name") (string (codes "a&b")) (member (codes "note") (string (codes "<i>x</i>")) no_members)))

-- the page's block, and the partial in it
abbrev pub block_occurrence : Occurrence
block_occurrence = element_in first_tree 0 (Some (at 1 1))

abbrev pub item_occurrence : Occurrence
item_occurrence = element_in (body_at block_occurrence (as_part 0)) 1 (Some (at 2 3))

-- an element of the layout, and one of the partial, by its index, its line and its column
abbrev pub in_layout : ℕ → ℕ → ℕ → Occurrence
in_layout i line column = element_in (included_at block_occurrence (Some (codes "page")) layout_tree) i (Some (at line column))

abbrev pub in_item : ℕ → ℕ → ℕ → Occurrence
in_item i line column = element_in (included_at item_occurrence (Some (codes "item")) item_tree) i (Some (at line column))

-- A text of the data as it is found in the partial, whose scope frame holds the data as its value.
abbrev pub found_text : Text → Found
found_text t = value (string t)

-- a piece with its origin
abbrev pub from : Origin → Text → Piece
from o text = record { origin = o; text = text }

abbrev pub page_pieces : List Piece
page_pieces =
    from (of_text (in_layout 0 1 1)) (codes "<main>\n")
    ∷ from (of_indent (in_item 0 1 1)) (codes "  ")
    ∷ from (of_value (in_item 0 1 1) (found_text (codes "a&b"))) (codes "a&amp;b")
    ∷ from (of_text (in_item 1 1 9)) (codes "\n")
    ∷ from (of_indent (in_item 2 2 1)) (codes "  ")
    ∷ from (of_raw (in_item 2 2 1) (found_text (codes "<i>x</i>"))) (codes "<i>x</i>")
    ∷ from (of_text (in_item 3 2 11)) (codes ": ")
    ∷ from (of_boolean_text (in_item 4 2 13) true) (codes "true")
    ∷ from (of_text (in_item 5 2 23)) (codes "\n")
    ∷ from (of_text (in_layout 2 2 21)) (codes "</main>\n")
    ∷ []

-- There is a rendering that succeeds, and these are its pieces.
pub record GivesPieces (p : Setting) (begins : Beginning → Type 0) (ps : List Piece) : Type 0 where
  pub pieces : List Piece
  pub last : State
  pub answers : RenderAnswers p begins pieces (Ended last)
  pub are : pieces ≡ ps

-- The output of the page has these pieces.
abbrev pub PiecesExample : Type 0
PiecesExample = GivesPieces (over_templates 64 registered page_data) (FromSource no_options page_source) page_pieces

-- ---- what is emitted of pieces

-- nested iterations
abbrev pub iterations_source : Text
iterations_source = codes "{{#each a}}{{#each this}}{{this}}{{/each}};{{/each}}"

abbrev pub iterations_data : Data
iterations_data = object (member (codes "a")
    (array (item (array (item (natural 7) (item (natural 8) no_items))) no_items)) no_members)

-- the outer block, the inner one in an iteration of it, and the value in an iteration of that
abbrev pub outer_occurrence : Occurrence
outer_occurrence = element_in first_tree 0 (Some (at 1 1))

abbrev pub inner_occurrence : Occurrence
inner_occurrence = element_in (body_at outer_occurrence (as_iteration 0 0)) 0 (Some (at 1 12))

abbrev pub value_occurrence : ℕ → Occurrence
value_occurrence i = element_in (body_at inner_occurrence (as_iteration i i)) 0 (Some (at 1 26))

abbrev pub number_path : Text → List Text
number_path i = codes "a" ∷ codes "0" ∷ i ∷ []

abbrev pub iterations_pieces : List Piece
iterations_pieces =
    from (of_value (value_occurrence 0) (walked (natural 7) (number_path (codes "0")))) (codes "7")
    ∷ from (of_value (value_occurrence 1) (walked (natural 8) (number_path (codes "1")))) (codes "8")
    ∷ from (of_text (element_in (body_at outer_occurrence (as_iteration 0 0)) 1 (Some (at 1 43)))) (codes ";")
    ∷ []

abbrev pub IterationsExample : Type 0
IterationsExample = GivesPieces (over_templates 64 [] iterations_data) (FromSource no_options iterations_source) iterations_pieces

-- in the template that the rendering begins with, at a position, in these iterations
abbrev pub in_first_template : Position → List ℕ → Whereabouts
in_first_template p iterations = record { around = record { template = the_first; iterations = iterations }; position = Some p }

-- Each piece is emitted with its location, its iterations, the outermost first, and the path of a value.
abbrev pub IterationsEmittedExample : Type 0
IterationsEmittedExample = map emitted iterations_pieces ≡
    record {
      text = codes "7";
      provenance = record {
        kind = escaped_value;
        location = in_first_template (at 1 26) (0 ∷ 0 ∷ []);
        path = Some (number_path (codes "0"));
      };
    }
    ∷ record {
      text = codes "8";
      provenance = record {
        kind = escaped_value;
        location = in_first_template (at 1 26) (0 ∷ 1 ∷ []);
        path = Some (number_path (codes "1"));
      };
    }
    ∷ record {
      text = codes ";";
      provenance = record { kind = template_text; location = in_first_template (at 1 43) (0 ∷ []); path = None };
    }
    ∷ []

-- A piece of a partial is emitted with the partial's name, if it has one, and indentation with the element that writes it.
abbrev pub InItemEmittedExample : Type 0
InItemEmittedExample = provenance (of_indent (in_item 2 2 1)) ≡ record {
  kind = indentation;
  location = record {
    around = record { template = the_included (Some (codes "item")); iterations = [] };
    position = Some (at 2 1);
  };
  path = None;
}
