-- The worked page has its pieces: its sources compile as stated, and the run is computed.
use Rattle.std.proofs.Common.{◌≡◌, List, [], ◌∷◌, false, refl, codes}
use Rattle.std.specs.Fmt.{digits}
use Rattle.handlebars_base.specs.Escape.{escaped}
use Rattle.handlebars_expressions.specs.Binding.{after_bar, after_beginning}
use Rattle.handlebars_lexer.specs.Options.{no_options, named_options}
use Rattle.handlebars_template.specs.Compile.{Compiles, compiled}
use Rattle.handlebars_template.specs.Nest.{body_with}
use Rattle.handlebars_template.specs.Tree.{Tree, partial_block, decorator, no_arguments, name}
use Rattle.handlebars_template.proofs.Outcomes.{compilation_of-compiles}
use Rattle.handlebars_semantics.specs.Answer.{Beginning, a_tree, compiles, has_begun, RenderAnswers}
use Rattle.handlebars_semantics.specs.Means.{render_tree}
use Rattle.handlebars_semantics.specs.Pieces.{Piece}
use Rattle.handlebars_semantics.specs.Runs.{Outcome, Ended, Failed, WriteFailed, NoMemory}
use Rattle.handlebars_semantics.specs.State.{Setting, first_state}
use Rattle.handlebars_semantics.specs.Steps.{◌>>=◌, ◌>>◌}
use Rattle.handlebars_examples.specs.InclusionExamples.{alone_on_line, indented_by, includes_at, over_templates}
use Rattle.handlebars_examples.specs.PieceExamples.{page_source, page_data, registered, LayoutSourceExample, ItemSourceExample, GivesPieces, PiecesExample, iterations_data, IterationsExample, IterationsEmittedExample, InItemEmittedExample}
use Rattle.handlebars_examples.specs.SourceExamples.{alone_at_start, at, text_element}
use Rattle.handlebars_examples.proofs.Answered.{no_user_parts}
use Rattle.handlebars_examples.proofs.HelperTrees.{on_expressions, on_parameters, on_literals}
use Rattle.handlebars_examples.proofs.RunOf.{RunFrom, evaluated_run}
use Rattle.handlebars_examples.proofs.ScopeTrees.{iterations_tree, nested_each_source as iterations_compiles}

pub layout_source_example : LayoutSourceExample
unfolding on_expressions on_parameters
layout_source_example = compilation_of-compiles (named_options (codes "page")) 1 _ _ refl

pub item_source_example : ItemSourceExample
unfolding on_expressions on_parameters on_literals
item_source_example = compilation_of-compiles (named_options (codes "item")) 3 _ _ refl

-- the tree of the page
abbrev page_tree : Tree
page_tree = alone_at_start (partial_block (decorator (name (codes "page")) no_arguments
    (body_with (text_element 1 12 [] ∷ record { position = at 2 3; element = includes_at (indented_by (codes "  ")) (codes "item") }
    ∷ text_element 2 13 [] ∷ [])) alone_on_line))

page_compiles : Compiles page_source no_options (compiled page_tree)
unfolding on_expressions on_parameters after_bar after_beginning
page_compiles = compilation_of-compiles no_options 3 _ _ refl

-- ---- the run

-- whether a run that has these pieces succeeds, and they are those
abbrev EndsWith : List Piece → Outcome → List Piece → Type 0
EndsWith qs (Ended s) ps = qs ≡ ps
EndsWith qs (Failed f) ps = ⊥
EndsWith qs (WriteFailed f) ps = ⊥
EndsWith qs NoMemory ps = ⊥

gives_as : {p : Setting} {begins : Beginning → Type 0} {qs ps : List Piece} (o : Outcome)
    → RenderAnswers p begins qs o → EndsWith qs o ps → GivesPieces p begins ps
gives_as (Ended s) h are = record { pieces = _; last = s; answers = h; are = are }
gives_as (Failed f) h are = elim are [ ]
gives_as (WriteFailed f) h are = elim are [ ]
gives_as NoMemory h are = elim are [ ]

gives_pieces : {p : Setting} {begins : Beginning → Type 0} {t : Tree} {ps : List Piece} → begins (a_tree t)
    → (r : RunFrom p (render_tree t) (first_state p.parts.recursive)) → EndsWith r.pieces r.outcome ps
    → GivesPieces p begins ps
gives_pieces b r are = gives_as r.outcome (has_begun b r.runs) are

pub pieces_example : PiecesExample
unfolding ◌>>=◌ ◌>>◌ escaped digits
pieces_example =
    gives_pieces (compiles page_compiles)
    (evaluated_run 400 (over_templates 64 registered page_data) no_user_parts (render_tree page_tree) (first_state false)) refl

pub iterations_example : IterationsExample
unfolding ◌>>=◌ ◌>>◌ escaped digits
iterations_example =
    gives_pieces (compiles iterations_compiles)
    (evaluated_run 400 (over_templates 64 [] iterations_data) no_user_parts (render_tree iterations_tree) (first_state false)) refl

pub iterations_emitted_example : IterationsEmittedExample
iterations_emitted_example = refl

pub in_item_emitted_example : InItemEmittedExample
in_item_emitted_example = refl
