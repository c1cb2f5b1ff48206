-- Which names in a template hash arguments hide.
use Rattle.std.specs.Prelude.{ℕ, ◌+◌, Bool, false, not, ◌&&◌, ◌||◌, if◌then◌else◌, List, [], ◌∷◌, ◌++◌, Option, None, Some, codes}
use Rattle.std.specs.Str.{bytes_eq}
use Rattle.handlebars_base.specs.Bytes.{Text}
use Rattle.handlebars_base.specs.Optional.{with_or}
use Rattle.handlebars_base.specs.Path.{Reference, relative, variable, name_segments}
use Rattle.handlebars_template.specs.Position.{Position}
use Rattle.handlebars_template.specs.Tree.{Tree, tree, Elements, no_elements, element, Element, raw_string, html_expression, escaped_expression, helper_block, decorator_expression, decorator_block, partial_expression, partial_block, comment, Call, call, call_name, call_args, call_binding, is_value, Decorator, decorator, decorator_name, Args, args, Param, name, path, literal, subexpression, Params, no_params, param, Hash, no_hash, hash_pair, bodies, Body, no_body, body, as_name, lacks_params}
use Rattle.handlebars_includes.specs.Frames.{Frame, of_block, of_call, of_inline, bar_names, hash_keys, is_one_of, Hiding, shown, hidden_by, hiding, sought}
use Rattle.handlebars_includes.specs.Mentions.{partial_block_name}
use Rattle.handlebars_includes.specs.Positions.{first_position, later_positions}

-- Where an element is: in the template of this index, at a position, if it has one.
pub record Location : Type 0 where
  pub template : ℕ
  pub position : Option Position

-- A name that an element reads, and the position of the tag whose hash argument hides it.
pub record HiddenName : Type 0 where
  pub location : Location
  pub name : Text
  pub tag : Option Position

-- ---- helpers

-- the built-in helpers that render a body where they are
abbrev pub staying_helpers : List Text
staying_helpers =
    codes "if" ∷ codes "unless" ∷ codes "lookup" ∷ codes "raw" ∷ codes "log" ∷ codes "len" ∷ codes "eq" ∷ codes "ne"
    ∷ codes "gt" ∷ codes "gte" ∷ codes "lt" ∷ codes "lte" ∷ codes "and" ∷ codes "or" ∷ codes "not" ∷ []

-- those that render it at other values
abbrev pub moving_helpers : List Text
moving_helpers = codes "each" ∷ codes "with" ∷ []

-- Any other block may be at another value: a section is, but for one over a boolean, and a user-defined helper may be.
abbrev pub stays : Call → Bool
stays c = with_or (as_name (call_name c)) (is_one_of staying_helpers) false

abbrev pub is_helper : Call → Bool
is_helper c = with_or (as_name (call_name c)) (λ n. is_one_of staying_helpers n || is_one_of moving_helpers n) false

-- whether a call is a value, or a section: a name alone, of no built-in helper
abbrev pub reads_name : Call → Bool
reads_name c = is_value c && not (is_helper c)

-- the frames in the body of a call
abbrev pub body_frames : Call → List Frame → List Frame
body_frames c fs = if stays c then fs else of_block (bar_names (call_binding c)) ∷ fs

abbrev pub is_partial_block : Option Text → Bool
is_partial_block None = false
is_partial_block (Some n) = bytes_eq n partial_block_name

-- the frame of a partial call at a position
abbrev pub call_frame : Option Position → Decorator → Frame
call_frame p (decorator n (args qs hs) b marks) = of_call (not (lacks_params qs)) (hash_keys hs) p

-- The frames in its block. The block of `@partial-block` is rendered where it is.
abbrev pub block_frames : Option Position → Decorator → List Frame → List Frame
block_frames p d fs = if is_partial_block (as_name (decorator_name d)) then fs else call_frame p d ∷ fs

-- ---- tags

module _ (fs : List Frame) (l : Location) where
  abbrev pub found : Text → Hiding → List HiddenName
  found n shown = []
  found n (hidden_by tag) = record { location = l; name = n; tag = tag } ∷ []

  abbrev pub hidden_in_sought : Option (ℕ × Text) → List HiddenName
  hidden_in_sought None = []
  hidden_in_sought (Some s) = found s.1 (hiding fs s.0 false s.1)

  abbrev pub hidden_in_path : Reference → List HiddenName
  hidden_in_path (relative segments raw) = hidden_in_sought (sought 0 segments)
  hidden_in_path (variable level n raw) = []

  -- The parameters of a tag, those of its calls in parentheses too. What a call in parentheses is named by is no value.
  abbrev mutual
    pub hidden_in_param : Param → List HiddenName
    hidden_in_param (name n) = []
    hidden_in_param (path r) = hidden_in_path r
    hidden_in_param (literal d) = []
    hidden_in_param (subexpression e) = hidden_in_inner e

    pub hidden_in_inner : Element → List HiddenName
    hidden_in_inner (raw_string t) = []
    hidden_in_inner (html_expression c) = []
    hidden_in_inner (escaped_expression c) = hidden_in_inner_call c
    hidden_in_inner (helper_block c) = []
    hidden_in_inner (decorator_expression t) = []
    hidden_in_inner (decorator_block t) = []
    hidden_in_inner (partial_expression t) = []
    hidden_in_inner (partial_block t) = []
    hidden_in_inner (comment t) = []

    pub hidden_in_inner_call : Call → List HiddenName
    hidden_in_inner_call (call n xs b t marks) = hidden_in_name n ++ hidden_in_args xs

    -- a name that calls: only a call in parentheses has parameters
    pub hidden_in_name : Param → List HiddenName
    hidden_in_name (name n) = []
    hidden_in_name (path r) = []
    hidden_in_name (literal d) = []
    hidden_in_name (subexpression e) = hidden_in_inner e

    pub hidden_in_args : Args → List HiddenName
    hidden_in_args (args qs hs) = hidden_in_params qs ++ hidden_in_hash hs

    pub hidden_in_params : Params → List HiddenName
    hidden_in_params no_params = []
    hidden_in_params (param q qs) = hidden_in_param q ++ hidden_in_params qs

    pub hidden_in_hash : Hash → List HiddenName
    hidden_in_hash no_hash = []
    hidden_in_hash (hash_pair k q hs) = hidden_in_param q ++ hidden_in_hash hs

  -- A name that is read. That of a section may be stored as a name, and is a path of one name.
  abbrev pub hidden_in_value : Param → List HiddenName
  hidden_in_value (name n) = hidden_in_sought (sought 0 (name_segments n))
  hidden_in_value (path r) = hidden_in_path r
  hidden_in_value (literal d) = []
  hidden_in_value (subexpression e) = hidden_in_inner e

  -- the name of a call, and its arguments
  abbrev pub hidden_in_tag : Call → List HiddenName
  hidden_in_tag c =
      (if reads_name c then hidden_in_value (call_name c) else hidden_in_name (call_name c)) ++ hidden_in_args (call_args c)

-- ---- trees

-- In the order of the source, in these frames of the template of this index: for each element first what its tag reads, and then
-- its body and its inverse.
module _ (t : ℕ) where
  abbrev mutual
    pub hidden_in_tree : List Frame → Tree → List HiddenName
    hidden_in_tree fs (tree n es ps) = hidden_in_elements fs ps es

    pub hidden_in_elements : List Frame → List Position → Elements → List HiddenName
    hidden_in_elements fs ps no_elements = []
    hidden_in_elements fs ps (element e es) =
        hidden_in_element fs (first_position ps) e ++ hidden_in_elements fs (later_positions ps) es

    pub hidden_in_element : List Frame → Option Position → Element → List HiddenName
    hidden_in_element fs p (raw_string text) = []
    hidden_in_element fs p (html_expression c) = hidden_in_call fs p c
    hidden_in_element fs p (escaped_expression c) = hidden_in_call fs p c
    hidden_in_element fs p (helper_block c) = hidden_in_call fs p c
    hidden_in_element fs p (decorator_expression d) = hidden_in_decorator fs p d
    hidden_in_element fs p (decorator_block d) = hidden_in_decorator fs p d
    hidden_in_element fs p (partial_expression d) = hidden_in_inclusion fs p d
    hidden_in_element fs p (partial_block d) = hidden_in_inclusion fs p d
    hidden_in_element fs p (comment text) = []

    -- The inverse is rendered where the block is.
    pub hidden_in_call : List Frame → Option Position → Call → List HiddenName
    hidden_in_call fs p (call n xs b (bodies x y) marks) =
        hidden_in_tag fs (record { template = t; position = p }) (call n xs b (bodies x y) marks)
        ++ (hidden_in_body (body_frames (call n xs b (bodies x y) marks) fs) x ++ hidden_in_body fs y)

    pub hidden_in_decorator : List Frame → Option Position → Decorator → List HiddenName
    hidden_in_decorator fs p (decorator n xs b marks) =
        hidden_in_args fs (record { template = t; position = p }) xs ++ hidden_in_body (of_inline ∷ fs) b

    pub hidden_in_inclusion : List Frame → Option Position → Decorator → List HiddenName
    hidden_in_inclusion fs p (decorator n xs b marks) =
        hidden_in_name fs (record { template = t; position = p }) n
        ++ (hidden_in_args fs (record { template = t; position = p }) xs
        ++ hidden_in_body (block_frames p (decorator n xs b marks) fs) b)

    pub hidden_in_body : List Frame → Body → List HiddenName
    hidden_in_body fs no_body = []
    hidden_in_body fs (body x) = hidden_in_tree fs x

-- ---- templates

-- in the templates from an index on
abbrev pub hidden_from : ℕ → List Tree → List HiddenName
hidden_from i [] = []
hidden_from i (x ∷ xs) = hidden_in_tree i [] x ++ hidden_from (i + 1) xs
