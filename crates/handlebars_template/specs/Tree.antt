-- The tree of a template, as definitions see it: texts are lists of bytes, collections are lists.
use Rattle.std.specs.Prelude.{Bool, true, false, not, ◌&&◌, List, [], ◌∷◌, Option, None, Some}
use Rattle.serde_json.specs.Data.{Data}
use Rattle.handlebars_base.specs.Bytes.{Text}
use Rattle.handlebars_base.specs.Path.{Reference, raw_of}
use Rattle.handlebars_base.specs.Optional.{◌>>=◌, with_or}
use Rattle.handlebars_template.specs.Position.{Position}

-- The marks of a call: whether it is a block; whether that block is chained to the block around it, or has one chained to
-- it; and whether the indentation of its line is written before its output.
pub record CallMarks : Type 0 where
  pub block : Bool
  pub chain : Bool
  pub indent_before_write : Bool

-- The marks of a decorator or a partial: the indentation of its line, and whether that is written before its output.
pub record DecoratorMarks : Type 0 where
  pub indent : Option Text
  pub indent_before_write : Bool

mutual
  -- its name, its elements, and the positions of its first elements
  pub data Tree : Type 0 where
    tree : Option Text → Elements → List Position → Tree

  pub data Elements : Type 0 where
    no_elements : Elements
    element : Element → Elements → Elements

  pub data Element : Type 0 where
    raw_string : Text → Element
    html_expression : Call → Element
    escaped_expression : Call → Element
    helper_block : Call → Element
    decorator_expression : Decorator → Element
    decorator_block : Decorator → Element
    partial_expression : Decorator → Element
    partial_block : Decorator → Element
    comment : Text → Element

  -- a value or a helper call: its name, its arguments, the names that it binds, and its bodies
  pub data Call : Type 0 where
    call : Param → Args → Binding → Bodies → CallMarks → Call

  -- a decorator or a partial: its name, its arguments and its body
  pub data Decorator : Type 0 where
    decorator : Param → Args → Body → DecoratorMarks → Decorator

  pub data Args : Type 0 where
    args : Params → Hash → Args

  pub data Param : Type 0 where
    name : Text → Param
    path : Reference → Param
    literal : Data → Param
    subexpression : Element → Param

  pub data Params : Type 0 where
    no_params : Params
    param : Param → Params → Params

  -- the hash arguments, in the order of their keys
  pub data Hash : Type 0 where
    no_hash : Hash
    hash_pair : Text → Param → Hash → Hash

  pub data Binding : Type 0 where
    no_binding : Binding
    single : Param → Binding
    both : Param → Param → Binding

  -- the body and the inverse
  pub data Bodies : Type 0 where
    bodies : Body → Body → Bodies

  pub data Body : Type 0 where
    no_body : Body
    body : Tree → Body

abbrev pub elements_of : List Element → Elements
elements_of [] = no_elements
elements_of (e ∷ es) = element e (elements_of es)

abbrev pub params_of : List Param → Params
params_of [] = no_params
params_of (p ∷ ps) = param p (params_of ps)

abbrev pub no_arguments : Args
no_arguments = args no_params no_hash

-- no name and no elements
abbrev pub empty_tree : Tree
empty_tree = tree None no_elements []

-- ---- the parts of a tree

abbrev pub tree_name : Tree → Option Text
tree_name (tree n es positions) = n

abbrev pub tree_elements : Tree → Elements
tree_elements (tree n es positions) = es

-- ---- the parts of arguments and bodies

abbrev pub args_params : Args → Params
args_params (args ps hs) = ps

abbrev pub args_hash : Args → Hash
args_hash (args ps hs) = hs

abbrev pub bodies_body : Bodies → Body
bodies_body (bodies b i) = b

abbrev pub bodies_inverse : Bodies → Body
bodies_inverse (bodies b i) = i

-- ---- the parts of a call

abbrev pub call_name : Call → Param
call_name (call n xs b t marks) = n

abbrev pub call_args : Call → Args
call_args (call n xs b t marks) = xs

abbrev pub call_params : Call → Params
call_params h = args_params (call_args h)

abbrev pub call_hash : Call → Hash
call_hash h = args_hash (call_args h)

abbrev pub call_binding : Call → Binding
call_binding (call n xs b t marks) = b

abbrev pub call_bodies : Call → Bodies
call_bodies (call n xs b t marks) = t

abbrev pub call_body : Call → Body
call_body h = bodies_body (call_bodies h)

abbrev pub call_inverse : Call → Body
call_inverse h = bodies_inverse (call_bodies h)

abbrev pub call_marks : Call → CallMarks
call_marks (call n xs b t marks) = marks

-- ---- the parts of a decorator or a partial

abbrev pub decorator_name : Decorator → Param
decorator_name (decorator n xs t marks) = n

abbrev pub decorator_args : Decorator → Args
decorator_args (decorator n xs t marks) = xs

abbrev pub decorator_body : Decorator → Body
decorator_body (decorator n xs t marks) = t

abbrev pub decorator_marks : Decorator → DecoratorMarks
decorator_marks (decorator n xs t marks) = marks

-- ---- names and values

-- the text of a name or a path, as written
abbrev pub as_name : Param → Option Text
as_name (name n) = Some n
as_name (path r) = Some (raw_of r)
as_name (literal d) = None
as_name (subexpression e) = None

abbrev pub lacks_params : Params → Bool
lacks_params no_params = true
lacks_params (param p ps) = false

abbrev pub lacks_hash : Hash → Bool
lacks_hash no_hash = true
lacks_hash (hash_pair k p hs) = false

abbrev pub lacks_arguments : Args → Bool
lacks_arguments xs = lacks_params (args_params xs) && lacks_hash (args_hash xs)

-- Whether an expression is a name alone, without parameters and hash arguments. It is then a value, unless a helper has its
-- name.
abbrev pub is_value : Call → Bool
is_value h = lacks_arguments (call_args h)

-- the call of an expression; no other element has one here
abbrev pub expression_call : Element → Option Call
expression_call (escaped_expression h) = Some h
expression_call e = None

-- the text of an expression's name, as written
abbrev pub element_name : Element → Option Text
element_name e = expression_call e >>= λ h. as_name (call_name h)

-- an expression with parameters or hash arguments
abbrev pub is_helper : Element → Bool
is_helper e = with_or (expression_call e) (λ h. not (is_value h)) false
