-- Worked premises of laws: registries and answers that meet them, with what the laws say of these.
use Rattle.std.specs.Prelude.{◌≡◌, List, [], ◌∷◌, Option, None, Some, codes}
use Rattle.std.specs.List.{AllByRecursion}
use Rattle.serde_json.specs.Data.{Data}
use Rattle.handlebars_base.specs.Bytes.{Text}
use Rattle.handlebars_base.specs.Path.{named, raw_of}
use Rattle.handlebars_base.specs.Values.{rendered}
use Rattle.handlebars_lexer.specs.Options.{Options, no_options, named_options}
use Rattle.handlebars_template.specs.Compile.{Compiles, compiled}
use Rattle.handlebars_template.specs.Tree.{Tree, tree, Elements, no_elements, element, elements_of, Element, raw_string, html_expression, escaped_expression, helper_block, decorator_expression, decorator_block, partial_expression, partial_block, comment, Call, call, no_arguments, Param, name, path, literal, subexpression, bodies, no_body}
use Rattle.handlebars_helpers.specs.Callee.{first_callee}
use Rattle.handlebars_helpers.specs.UserAnswers.{Registrations}
use Rattle.handlebars_semantics.specs.Answer.{Beginning, a_tree, FromSource, FromName, GivesText, RenderAnswers, HasAgreeingAnswer}
use Rattle.handlebars_semantics.specs.Marked.{AllAsCompiled, HasNoOtherMarks, IsBlankIndent}
use Rattle.handlebars_semantics.specs.Pieces.{Piece}
use Rattle.handlebars_semantics.specs.Runs.{Outcome, IsStop}
use Rattle.handlebars_semantics.specs.State.{Parts, Setting}
use Rattle.handlebars_markup.specs.Alike.{AreAlike}
use Rattle.handlebars_markup.specs.Blind.{IsBlindTree}
use Rattle.handlebars_markup.specs.TwoRuns.{IsBlind, HaveSameMarkup, EndAlike}
use Rattle.handlebars_examples.specs.Examples.{first_parts}
use Rattle.handlebars_examples.specs.InclusionExamples.{stored_in, called, includes_at, alone_on_line}
use Rattle.handlebars_examples.specs.MarkupExamples.{IsFirst, title_tree}
use Rattle.handlebars_examples.specs.SourceExamples.{at, path_expression, text_and_element}

-- what a new registry has, with these templates, and a run with that over data
abbrev pub with_stored : (Text → Option Tree) → Parts
with_stored templates = record first_parts { template = templates }

abbrev pub over_stored : (Text → Option Tree) → Data → Setting
over_stored templates given = record { given = given; parts = with_stored templates }

-- ---- where marks are

-- The tree is what a source compiles to.
pub record IsOfSource (t : Tree) : Type 0 where
  pub source : Text
  pub options : Options
  pub compiles : Compiles source options (compiled t)

-- Each tree under a name is.
abbrev pub AreOfSources : (Text → Option Tree) → Type 0
AreOfSources templates = (n : Text) (t : Tree) → templates n ≡ Some t → IsOfSource t

-- A registry of such templates without user-defined helpers has all trees as compiled, over any data.
abbrev pub OfSourcesExample : Type 0
OfSourcesExample = (templates : Text → Option Tree) → AreOfSources templates → (d : Data)
    → AllAsCompiled (over_stored templates d)

-- a registry of one template, whose source writes a text into an attribute
abbrev pub titles : Text → Option Tree
titles = stored_in ((codes "page", title_tree) ∷ [])

abbrev pub TitlesExample : Type 0
TitlesExample = AreOfSources titles

-- So each mark of its output is in a text of the template, whatever the data is, and each `&` of a value begins an entity.
abbrev pub NoOtherMarksExample : Type 0
NoOtherMarksExample = (d : Data) (ps : List Piece) (o : Outcome)
    (a : RenderAnswers (over_stored titles d) (FromName titles (codes "page")) ps o) → HasNoOtherMarks a

-- So each piece of indentation in its output consists of spaces and tabs.
abbrev pub BlankIndentsExample : Type 0
BlankIndentsExample = (d : Data) (ps : List Piece) (o : Outcome)
    → RenderAnswers (over_stored titles d) (FromName titles (codes "page")) ps o
    → AllByRecursion (λ piece. IsBlankIndent piece.origin piece.text) ps

-- ---- what is blind

-- The name is none of a built-in helper, and isn't made in parentheses.
abbrev pub NamesNoHelper : Param → Type 0
NamesNoHelper (name n) = first_callee n ≡ None
NamesNoHelper (path p) = first_callee (raw_of p) ≡ None
NamesNoHelper (literal d) = first_callee (rendered d) ≡ None
NamesNoHelper (subexpression e) = ⊥

abbrev pub IsPlainCall : Call → Type 0
IsPlainCall (call n xs b t m) = NamesNoHelper n × (xs ≡ no_arguments) × (t ≡ bodies no_body no_body)

-- a text, a comment, or a value that is written escaped
abbrev pub IsPlain : Element → Type 0
IsPlain (raw_string t) = Unit {0}
IsPlain (html_expression c) = ⊥
IsPlain (escaped_expression c) = IsPlainCall c
IsPlain (helper_block c) = ⊥
IsPlain (decorator_expression t) = ⊥
IsPlain (decorator_block t) = ⊥
IsPlain (partial_expression t) = ⊥
IsPlain (partial_block t) = ⊥
IsPlain (comment t) = Unit {0}

abbrev pub ArePlain : Elements → Type 0
ArePlain no_elements = Unit {0}
ArePlain (element e es) = IsPlain e × ArePlain es

abbrev pub IsPlainTree : Tree → Type 0
IsPlainTree (tree n es positions) = ArePlain es

-- The tree of `Hello {{name}}` is such a template.
abbrev pub HelloExample : Type 0
HelloExample =
    IsPlainTree (text_and_element (codes "Hello ") (path_expression (named (codes "name") ∷ []) (codes "name")) (at 1 7))

-- With a new registry each such template is blind.
abbrev pub PlainTreesExample : Type 0
PlainTreesExample = (r : Registrations) → IsFirst r → (t : Tree) → IsPlainTree t → IsBlindTree r t

-- A new registry with such templates alone is blind.
abbrev pub ArePlainTrees : (Text → Option Tree) → Type 0
ArePlainTrees templates = (n : Text) (t : Tree) → templates n ≡ Some t → IsPlainTree t

abbrev pub PlainRegistryExample : Type 0
PlainRegistryExample = (templates : Text → Option Tree) → ArePlainTrees templates → IsBlind (with_stored templates)

abbrev pub begins_with : Tree → Beginning → Type 0
begins_with t b = b ≡ a_tree t

-- So over data that is equal up to texts such a template has the same end and the same markup.
abbrev pub PlainMarkupExample : Type 0
PlainMarkupExample = (templates : Text → Option Tree) → ArePlainTrees templates
    → (t : Tree) → IsPlainTree t → (one other : Data) → AreAlike one other → (ps qs : List Piece) (o q : Outcome)
    → RenderAnswers (over_stored templates one) (begins_with t) ps o
    → RenderAnswers (over_stored templates other) (begins_with t) qs q → (IsStop o → ⊥) → (IsStop q → ⊥)
    → ∥ HaveSameMarkup ps qs × EndAlike o q ∥₁

-- ---- what doesn't matter

-- a template that includes another one
abbrev pub main_source : Text
main_source = codes "{{> p}}"

abbrev pub main_tree : Tree
main_tree = tree (Some (codes "main")) (elements_of (includes_at alone_on_line (codes "p") ∷ [])) (at 1 1 ∷ [])

abbrev pub MainSourceExample : Type 0
MainSourceExample = Compiles main_source (named_options (codes "main")) (compiled main_tree)

abbrev pub partials : Text → Option Tree
partials = stored_in ((codes "main", main_tree) ∷ (codes "p", called (codes "p") (raw_string (codes "x") ∷ [])) ∷ [])

-- Its text is the same whatever is registered under all other names.
abbrev pub OthersExample : Type 0
OthersExample = (templates : Text → Option Tree) → templates (codes "main") ≡ partials (codes "main")
    → templates (codes "p") ≡ partials (codes "p")
    → (d : Data) → GivesText (over_stored templates d) (FromName templates (codes "main")) (codes "x")

-- It doesn't include itself, so the answer by its name agrees with one by its source.
abbrev pub SourceAgreesExample : Type 0
SourceAgreesExample = (d : Data) → (ps : List Piece) × (o : Outcome)
    × RenderAnswers (over_stored partials d) (FromName partials (codes "main")) ps o
    × HasAgreeingAnswer (over_stored partials d) (FromSource no_options main_source) ps o
