-- Worked sources and hand-built templates, each with its outcome over data; a value in parentheses; and a capture.
use Rattle.std.specs.Prelude.{List, [], ◌∷◌, ◌++◌, Some, None, codes, Bool, true, false, if◌then◌else◌}
use Rattle.serde_json.specs.Data.{unsigned, Data, null, boolean, number, string, array, object, no_members, member, no_items, item}
use Rattle.handlebars_base.specs.Answers.{gives}
use Rattle.handlebars_base.specs.Bytes.{Text, backslash}
use Rattle.handlebars_base.specs.Path.{named, relative}
use Rattle.handlebars_base.specs.Reasons.{Reason, Refusal, invalid_json_index, helper_not_found, param_not_found_for_index, of_template}
use Rattle.handlebars_base.specs.RenderRefusals.{plain_refusal}
use Rattle.handlebars_base.specs.Scoped.{value}
use Rattle.handlebars_template.specs.Calls.{plain_call, plain_marks}
use Rattle.handlebars_lexer.specs.Options.{no_options}
use Rattle.handlebars_template.specs.Compile.{unreadable_tag}
use Rattle.handlebars_examples.specs.SourceExamples.{at, escaped_source}
use Rattle.handlebars_template.specs.Tree.{Tree, tree, elements_of, Element, html_expression, escaped_expression, raw_string, helper_block, Call, call, args, bodies, Body, no_body, body, no_binding, no_hash, params_of, Param, name, path, literal, subexpression}
use Rattle.handlebars_semantics.specs.Pieces.{Piece, of_text}
use Rattle.handlebars_scope.specs.Scopes.{empty_frame, nothing_at}
use Rattle.handlebars_semantics.specs.Occurrences.{first_tree, element_in}
use Rattle.handlebars_helpers.specs.Decoration.{built_in_decorator}
use Rattle.handlebars_helpers.specs.Callee.{first_callee}
use Rattle.handlebars_helpers.specs.UserHelper.{no_user_helper}
use Rattle.handlebars_helpers.specs.UserDecorator.{no_user_decorator}
use Rattle.handlebars_helpers.specs.Escaping.{for_html, no_user_escape}
use Rattle.handlebars_semantics.specs.State.{Parts, Setting, State}
use Rattle.handlebars_semantics.specs.Values.{HasValue}
use Rattle.handlebars_semantics.specs.Steps.{◌>>=◌, ◌>>◌, run, write, become, capture}
use Rattle.handlebars_semantics.specs.Runs.{Ended, Failed, Runs}
use Rattle.handlebars_semantics.specs.Answer.{Beginning, FromSource, FromName, RenderAnswers, GivesText}
use Rattle.handlebars_semantics.specs.Laws.{alone}

-- data with one member
abbrev pub with : Text → Data → Data
with key d = object (member key d no_members)

-- what a new registry has
abbrev pub first_parts : Parts
first_parts = record {
  helper = first_callee;
  user = no_user_helper;
  decorator = built_in_decorator;
  user_decorator = no_user_decorator;
  escape = for_html;
  user_escape = no_user_escape;
  strict = false;
  recursive = false;
  sections = true;
  template = nothing_at;
  limit = 64;
}

-- a run over data, with what a new registry has
abbrev pub over : Data → Setting
over given = record { given = given; parts = first_parts }

-- The empty source gives the empty text, over any data.
abbrev pub EmptyExample : Type 0
EmptyExample = (given : Data) → GivesText (over given) (FromSource no_options []) []

abbrev pub foo : Data
foo = with (codes "name") (string (codes "foo"))

abbrev pub ValueExample : Type 0
ValueExample = GivesText (over foo) (FromSource no_options (codes "Hello {{name}}")) (codes "Hello foo")

abbrev pub markup : Data
markup = with (codes "name") (string (codes "<b>"))

-- A value is escaped.
abbrev pub MarkupExample : Type 0
MarkupExample = GivesText (over markup) (FromSource no_options (codes "Hello {{name}}")) (codes "Hello &lt;b&gt;")

-- A missing value writes nothing.
abbrev pub MissingExample : Type 0
MissingExample = GivesText (over null) (FromSource no_options (codes "Hello {{name}}")) (codes "Hello ")

abbrev pub one : Data
one = with (codes "a") (number (unsigned 1))

-- Braces after one backslash are text. Of two backslashes one is dropped.
abbrev pub EscapedExample : Type 0
EscapedExample = GivesText (over one) (FromSource no_options escaped_source) (codes "{{a}} " ++ (backslash ∷ codes "1"))

-- the error of a name that is no index, at line 1 and column 2
abbrev pub wrong_index : Refusal
wrong_index = record {
  reason = invalid_json_index (codes "x");
  location = record { name = None; line = Some 1; column = Some 2 };
}

abbrev pub ones : Data
ones = with (codes "a") (array (item (number (unsigned 1)) no_items))

-- The text before the error is written.
abbrev pub RefusalExample : Type 0
RefusalExample = RenderAnswers (over ones) (FromSource no_options (codes "x{{a.x}}"))
    (record { origin = of_text (element_in first_tree 0 (Some (at 1 1))); text = codes "x" } ∷ []) (Failed wrong_index)

-- A source that doesn't compile is rejected before anything is written, over any data.
abbrev pub UnclosedExample : Type 0
UnclosedExample = (given : Data) → RenderAnswers (over given) (FromSource no_options (codes "ab{{name")) []
    (Failed (plain_refusal (of_template (unreadable_tag no_options (at 1 3)))))

-- ---- hand-built templates

-- a registry in which this tree is registered
abbrev pub from_registered : Tree → Beginning → Type 0
from_registered t = FromName (λ n. Some t) []

-- a path of one name
abbrev pub one_name_path : Text → Param
one_name_path n = path (relative (named n ∷ []) n)

-- the content of braces or of parentheses: a name and parameters
abbrev pub call_with_params : Param → List Param → Call
call_with_params n ps = plain_call n (args (params_of ps) no_hash)

-- a call in parentheses, with no parameters
abbrev pub nested : Text → Param
nested n = subexpression (escaped_expression (call_with_params (one_name_path n) []))

-- A value in three braces is written as it is, and the next one is escaped again: {{{name}}}{{name}}.
abbrev pub RawExample : Type 0
RawExample = GivesText (over markup)
    (from_registered (tree None (elements_of (html_expression (call_with_params (one_name_path (codes "name")) [])
    ∷ escaped_expression (call_with_params (one_name_path (codes "name")) []) ∷ [])) [])) (codes "<b>&lt;b&gt;")

-- Rendering this element alone fails for this reason before anything is written.
abbrev pub RenderingFailsFor : Data → Element → Reason → Type 0
RenderingFailsFor given e r = RenderAnswers (over given) (from_registered (alone e)) [] (Failed (plain_refusal r))

-- The content of parentheses is a call: {{(a)}}.
abbrev pub CallExample : Type 0
CallExample = (given : Data)
    → RenderingFailsFor given (escaped_expression (call_with_params (nested (codes "a")) [])) (helper_not_found (codes "a"))

-- The parameters of a call are evaluated before its helper is looked up: {{a (b)}}.
abbrev pub InnerExample : Type 0
InnerExample = (given : Data) → RenderingFailsFor given
    (escaped_expression (call_with_params (one_name_path (codes "a")) (nested (codes "b") ∷ []))) (helper_not_found (codes "b"))

-- The name of a call is evaluated before its parameters: {{(a) (b)}}.
abbrev pub NameExample : Type 0
NameExample = (given : Data) → RenderingFailsFor given
    (escaped_expression (call_with_params (nested (codes "a")) (nested (codes "b") ∷ []))) (helper_not_found (codes "a"))

-- A literal is called by its text: {{1 null}}.
abbrev pub LiteralExample : Type 0
LiteralExample = (given : Data) → RenderingFailsFor given
    (escaped_expression (call_with_params (literal (number (unsigned 1))) (literal null ∷ []))) (helper_not_found (codes "1"))

-- ---- blocks

-- a block: its name, its parameters, its body and its inverse
abbrev pub block : Text → List Param → Body → Body → Element
block n ps b i = helper_block (call (name n) (args (params_of ps) no_hash) no_binding (bodies b i)
    (record plain_marks { block = true }))

abbrev pub single_body : Element → Body
single_body e = body (alone e)

abbrev pub text_body : Text → Body
text_body t = single_body (raw_string t)

-- a block `if` over the value of a name, with a text as its body
abbrev pub if_then : Text → Text → Body → Element
if_then key t i = block (codes "if") (one_name_path key ∷ []) (text_body t) i

-- data with one boolean, and with two
abbrev pub one_truth : Bool → Data
one_truth a = with (codes "a") (boolean a)

abbrev pub two_truths : Bool → Bool → Data
two_truths a b = object (member (codes "a") (boolean a) (member (codes "b") (boolean b) no_members))

-- A block `if` renders its body for a true value, and its inverse for a false one: {{#if a}}x{{else}}y{{/if}}.
abbrev pub IfExample : Type 0
IfExample = (a : Bool) → GivesText (over (one_truth a))
    (from_registered (alone (if_then (codes "a") (codes "x") (text_body (codes "y"))))) (if a then codes "x" else codes "y")

-- Without an inverse it renders nothing for a false value: {{#if a}}x{{/if}}.
abbrev pub NoInverseExample : Type 0
NoInverseExample = (a : Bool) → GivesText (over (one_truth a))
    (from_registered (alone (if_then (codes "a") (codes "x") no_body))) (if a then codes "x" else [])

-- A chain takes the first true branch: {{#if a}}x{{else}}{{#if b}}y{{else}}z{{/if}}{{/if}}.
abbrev pub ChainExample : Type 0
ChainExample = (a b : Bool) → GivesText (over (two_truths a b))
    (from_registered (alone (if_then (codes "a") (codes "x") (single_body (if_then (codes "b") (codes "y") (text_body (codes "z")))))))
    (if a then codes "x" else (if b then codes "y" else codes "z"))

-- A block `if` without a parameter fails, here with no position, since the tree has none: {{#if}}..{{/if}}.
abbrev pub NoParamExample : Type 0
NoParamExample = (given : Data) (b i : Body)
    → RenderingFailsFor given (block (codes "if") [] b i) (param_not_found_for_index (codes "if") 0)

-- A block with a parameter fails if no helper has its name: {{#a null}}..{{/a}}.
abbrev pub BlockExample : Type 0
BlockExample = (given : Data) (b i : Body)
    → RenderingFailsFor given (block (codes "a") (literal null ∷ []) b i) (helper_not_found (codes "a"))

-- an `if` in parentheses, over the value of a name
abbrev pub nested_if : Text → Param
nested_if key = subexpression (escaped_expression (call_with_params (name (codes "if")) (one_name_path key ∷ [])))

-- the state in the one scope that a run begins with, where no decorator has changed anything
abbrev pub in_first_block : Bool → State → State
in_first_block recursive s =
    record s { blocks = empty_frame ∷ []; recursive = recursive; changed = None; local = nothing_at }

-- In parentheses an `if` has no body, so its value is the empty text: (if a).
abbrev pub InnerIfExample : Type 0
InnerIfExample = (a recursive : Bool) (s : State)
    → HasValue (over (one_truth a)) (in_first_block recursive s) (nested_if (codes "a")) (gives (value (string [])))

-- The captured pieces are passed to the next step, which here writes them once. The run goes on from the state after the
-- capture.
abbrev pub CaptureExample : Type 0
CaptureExample = (given : Data) (s next : State) (x : Piece)
    → Runs (over given) (run (capture (write false (x ∷ []) >> become next) >>= λ captured. write false captured)) s (x ∷ []) (Ended next)
