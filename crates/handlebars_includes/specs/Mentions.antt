-- What a template says of other templates: which names it includes, and which partials it may set.
use Rattle.std.specs.Prelude.{Bool, true, false, not, ◌&&◌, if◌then◌else◌, List, [], ◌∷◌, ◌++◌, Option, None, Some, codes}
use Rattle.std.specs.Str.{bytes_eq}
use Rattle.serde_json.specs.Data.{Data, null, boolean, number, string, array, object}
use Rattle.handlebars_base.specs.Bytes.{Text}
use Rattle.handlebars_template.specs.Position.{Position}
use Rattle.handlebars_template.specs.Tree.{Tree, tree, Elements, no_elements, element, Element, raw_string, html_expression, escaped_expression, helper_block, decorator_expression, decorator_block, partial_expression, partial_block, comment, Call, call, Decorator, decorator, args, Param, name, path, literal, subexpression, Params, no_params, param, bodies, Body, no_body, body, as_name}
use Rattle.handlebars_includes.specs.Positions.{first_position, later_positions}

-- A partial call of a written name, at a position, which is rendered always when its template is, or may not be; or the tag of
-- a decorator, which sets an inline partial of this name or, with none, nobody knows what.
pub data Mention : Type 0 where
  includes : Text → Option Position → Bool → Mention
  sets : Option Text → Mention

-- ---- partial calls

abbrev pub partial_block_name : Text
partial_block_name = codes "@partial-block"

-- Whether the block of a partial call is always rendered: it is, ahead of the partial, or as the partial where none is found;
-- but the block of `@partial-block` is not where another one was captured. A name that is computed may be that one.
abbrev pub renders_block : Option Text → Bool
renders_block None = false
renders_block (Some n) = not (bytes_eq n partial_block_name)

-- `@partial-block` stands for a block, and no template of that name is sought.
abbrev pub included : Option Text → Option Position → Bool → List Mention
included None p always = []
included (Some n) p always = if bytes_eq n partial_block_name then [] else includes n p always ∷ []

-- ---- decorators

abbrev pub text_in : Data → Option Text
text_in null = None
text_in (boolean b) = None
text_in (number n) = None
text_in (string s) = Some s
text_in (array ds) = None
text_in (object ms) = None

abbrev pub text_of : Param → Option Text
text_of (name n) = None
text_of (path r) = None
text_of (literal d) = text_in d
text_of (subexpression e) = None

-- the first parameter, if it is written as a text
abbrev pub first_text : Params → Option Text
first_text no_params = None
first_text (param q qs) = text_of q

abbrev pub set_by_name : Option Text → Params → Option Text
set_by_name None qs = None
set_by_name (Some n) qs = if bytes_eq n (codes "inline") then first_text qs else None

-- the name of the inline partial that a tag sets, if it is `inline` and the name is written
abbrev pub set_by : Decorator → Option Text
set_by (decorator n (args qs hs) b marks) = set_by_name (as_name n) qs

-- ---- trees

-- In the order of the source. Nothing in a body of a helper, or of an inline partial, is always rendered.
abbrev mutual
  pub mentions_in_tree : Bool → Tree → List Mention
  mentions_in_tree always (tree n es ps) = mentions_in_elements always ps es

  pub mentions_in_elements : Bool → List Position → Elements → List Mention
  mentions_in_elements always ps no_elements = []
  mentions_in_elements always ps (element e es) =
      mentions_in_element always (first_position ps) e ++ mentions_in_elements always (later_positions ps) es

  pub mentions_in_element : Bool → Option Position → Element → List Mention
  mentions_in_element always p (raw_string t) = []
  mentions_in_element always p (html_expression c) = mentions_in_call c
  mentions_in_element always p (escaped_expression c) = mentions_in_call c
  mentions_in_element always p (helper_block c) = mentions_in_call c
  mentions_in_element always p (decorator_expression d) = mentions_in_decorator d
  mentions_in_element always p (decorator_block d) = mentions_in_decorator d
  mentions_in_element always p (partial_expression d) = mentions_in_inclusion always p d
  mentions_in_element always p (partial_block d) = mentions_in_inclusion always p d
  mentions_in_element always p (comment t) = []

  pub mentions_in_call : Call → List Mention
  mentions_in_call (call n xs b (bodies x y) marks) = mentions_in_body false x ++ mentions_in_body false y

  pub mentions_in_decorator : Decorator → List Mention
  mentions_in_decorator (decorator n xs b marks) = sets (set_by (decorator n xs b marks)) ∷ mentions_in_body false b

  pub mentions_in_inclusion : Bool → Option Position → Decorator → List Mention
  mentions_in_inclusion always p (decorator n xs b marks) =
      included (as_name n) p always ++ mentions_in_body (always && renders_block (as_name n)) b

  pub mentions_in_body : Bool → Body → List Mention
  mentions_in_body always no_body = []
  mentions_in_body always (body t) = mentions_in_tree always t

-- in a template
abbrev pub mentions_in : Tree → List Mention
mentions_in t = mentions_in_tree true t
