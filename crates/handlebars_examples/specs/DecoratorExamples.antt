-- Worked decorator tags, in hand-built templates, each with its effect or its error; and the effect of evaluating.
use Rattle.std.specs.Prelude.{List, [], ◌∷◌, None, Some, codes, false}
use Rattle.serde_json.specs.Data.{unsigned, Data, number, string}
use Rattle.handlebars_base.specs.Bytes.{Text}
use Rattle.handlebars_base.specs.Reasons.{block_content_required, decorator_not_found, invalid_param_type, param_not_found_for_index}
use Rattle.handlebars_base.specs.RenderRefusals.{plain_refusal}
use Rattle.handlebars_scope.specs.Scopes.{Frame}
use Rattle.handlebars_template.specs.Tree.{Tree, tree, elements_of, Element, raw_string, decorator_expression, decorator_block, Decorator, decorator, args, Body, no_body, body, no_hash, params_of, Param, name, literal}
use Rattle.handlebars_semantics.specs.Evaluation.{eval_tree}
use Rattle.handlebars_semantics.specs.Means.{render_decorator}
use Rattle.handlebars_semantics.specs.Runs.{Ended, Failed, Runs}
use Rattle.handlebars_semantics.specs.State.{State, with_partial}
use Rattle.handlebars_semantics.specs.Steps.{run}
use Rattle.handlebars_examples.specs.Examples.{over, from_registered, RenderingFailsFor}
use Rattle.handlebars_semantics.specs.Answer.{GivesText}

-- the tag of a decorator: its name, its parameters and its body
abbrev pub tag : Text → List Param → Body → Decorator
tag n ps b = decorator (name n) (args (params_of ps) no_hash) b (record { indent = None; indent_before_write = false })

abbrev pub text_param : Text → Param
text_param t = literal (string t)

-- {{#*inline "p"}}..{{/inline}}
abbrev pub inline_p : Tree → Decorator
inline_p t = tag (codes "inline") (text_param (codes "p") ∷ []) (body t)

-- the state in these scope frames
abbrev pub in_frames : List Frame → State → State
in_frames fs s = record s { blocks = fs }

-- the effect of a decorator over any data, with nothing written
abbrev pub DecoratesTo : Decorator → State → State → Type 0
DecoratesTo t s next = (given : Data) → Runs (over given) (run (render_decorator t)) s [] (Ended next)

-- `inline` sets the partial in the nearest scope frame, and leaves the other frames unchanged.
abbrev pub NearestExample : Type 0
NearestExample = (s : State) (f : Frame) (fs : List Frame) (t : Tree)
    → DecoratesTo (inline_p t) (in_frames (f ∷ fs) s) (in_frames (with_partial (codes "p") t f ∷ fs) s)

-- Without any scope frame it does nothing.
abbrev pub NoBlockExample : Type 0
NoBlockExample = (s : State) (t : Tree) → DecoratesTo (inline_p t) (in_frames [] s) (in_frames [] s)

-- It fails first if it has no parameter, here without a body as well: {{*inline}}.
abbrev pub InlineNoParamExample : Type 0
InlineNoParamExample = (given : Data) → RenderingFailsFor given (decorator_expression (tag (codes "inline") [] no_body))
    (param_not_found_for_index (codes "inline") 0)

-- Then it fails if the parameter is no text: {{*inline 1}}.
abbrev pub NoTextExample : Type 0
NoTextExample = (given : Data) → RenderingFailsFor given
    (decorator_expression (tag (codes "inline") (literal (number (unsigned 1)) ∷ []) no_body))
    (invalid_param_type (codes "String"))

-- Then it fails if it has no body: {{*inline "p"}}.
abbrev pub NoBodyExample : Type 0
NoBodyExample = (given : Data) → RenderingFailsFor given
    (decorator_expression (tag (codes "inline") (text_param (codes "p") ∷ []) no_body)) block_content_required

-- No decorator has this name: {{#*d}}..{{/d}}.
abbrev pub UnknownExample : Type 0
UnknownExample = (given : Data) (b : Body)
    → RenderingFailsFor given (decorator_block (tag (codes "d") [] b)) (decorator_not_found (codes "d"))

-- a tree of a text, of a tag after it, and of a text
abbrev pub between_texts : Element → Tree
between_texts e = tree (Some (codes "t")) (elements_of (raw_string (codes "a") ∷ e ∷ raw_string (codes "b") ∷ [])) []

-- The tag writes nothing: a{{#*inline "p"}}..{{/inline}}b.
abbrev pub SilentExample : Type 0
SilentExample = (given : Data) (t : Tree)
    → GivesText (over given) (from_registered (between_texts (decorator_block (inline_p t)))) (codes "ab")

-- Evaluating that tree has the effect of the tag, and skips the texts.
abbrev pub EvalExample : Type 0
EvalExample = (given : Data) (s : State) (f : Frame) (fs : List Frame) (t : Tree)
    → Runs (over given) (eval_tree (between_texts (decorator_block (inline_p t)))) (in_frames (f ∷ fs) s) []
    (Ended (in_frames (with_partial (codes "p") t f ∷ fs) s))

-- Evaluating a tree fails if the tag fails.
abbrev pub EvalFailedExample : Type 0
EvalFailedExample = (given : Data) (s : State)
    → Runs (over given) (eval_tree (between_texts (decorator_expression (tag (codes "d") [] no_body)))) s []
    (Failed (plain_refusal (decorator_not_found (codes "d"))))
