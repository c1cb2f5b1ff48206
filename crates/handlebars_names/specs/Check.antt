-- What the check of names finds in trees.
use Rattle.std.specs.Prelude.{◌≡◌, Bool, true, false, ◌||◌, if◌then◌else◌, List, [], ◌∷◌, ◌++◌, Option, None, Some, option_and_then}
use Rattle.std.specs.List.{AllByRecursion}
use Rattle.std.specs.Str.{bytes_eq}
use Rattle.handlebars_base.specs.Bytes.{Text}
use Rattle.handlebars_base.specs.Optional.{with_or}
use Rattle.handlebars_template.specs.Position.{Position}
use Rattle.handlebars_template.specs.Tree.{Tree, tree, tree_name, Elements, no_elements, element, Element, raw_string, html_expression, escaped_expression, helper_block, decorator_expression, decorator_block, partial_expression, partial_block, comment, Call, call, Decorator, decorator, bodies, Body, no_body, body}
use Rattle.handlebars_semantics.specs.Inclusion.{is_current}
use Rattle.handlebars_semantics.specs.Including.{partial_block_name}
use Rattle.handlebars_html.specs.Ascii.{is_one_of}
use Rattle.handlebars_html.specs.Check.{first_position, later_positions}
use Rattle.handlebars_html.specs.Rule.{written_name, inline_name}
use Rattle.handlebars_names.specs.Faults.{Why, made_name, missing_partial, includes_itself, missing_block, named_body, Finding, fault, includes, faults_at}
use Rattle.handlebars_names.specs.Names.{Names}
use Rattle.handlebars_names.specs.Scopes.{Scope, without_block, covers, after_element, after_tree, Entry, scope_at}
use Rattle.handlebars_names.specs.Whys.{whys_of_args, whys_of_call, whys_of_decorator}

-- only a hand-built body has a name of its own
abbrev pub whys_of_body_name : Option Text → List Why
whys_of_body_name None = []
whys_of_body_name (Some n) = named_body n ∷ []

-- ---- inclusions

-- What a tag includes: what, is known when the template is rendered; the template that it is in; the captured block; or a partial.
pub data Included : Type 0 where
  made : Included
  itself : Text → Included
  the_block : Included
  a_partial : Text → Included

-- by its name, in a tree of this name
abbrev pub included_by_name : Option Text → Text → Included
included_by_name n m =
    if is_current m n then itself m else (if bytes_eq partial_block_name m then the_block else a_partial m)

abbrev pub included_by : Option Text → Option Text → Included
included_by n None = made
included_by n (Some m) = included_by_name n m

-- What is known in what is included, by what is known where the tag's block begins: what the block sets, and whether there is one.
abbrev pub included_scope : Body → Scope → Scope
included_scope no_body h = without_block h
included_scope (body t) h = record (after_tree t h) { block = true }

abbrev pub included_findings : Included → Body → Scope → List Finding
included_findings made b h = []
included_findings (itself m) b h = []
included_findings the_block b h = []
included_findings (a_partial m) b h = includes m (included_scope b h) ∷ []

-- Without a body there is this fault.
abbrev pub unless_body : Body → Why → List Why
unless_body no_body w = w ∷ []
unless_body (body t) w = []

module _ (has_template : Text → Bool) (h : Scope) where
  -- a partial that can be found for certain
  abbrev pub is_there : Text → Bool
  is_there m = is_one_of h.partials m || has_template m

  -- A tag without a block fails where there may be no captured block, or no partial. A name that is computed, and the template
  -- itself, are faults with a block too.
  abbrev pub whys_of_included : Included → Body → List Why
  whys_of_included made b = made_name ∷ []
  whys_of_included (itself m) b = includes_itself m ∷ []
  whys_of_included the_block b = if h.block then [] else unless_body b missing_block
  whys_of_included (a_partial m) b = if is_there m then [] else unless_body b (missing_partial m)

  -- What is known where the tag's block is rendered: ahead of a partial, or instead of a captured block or a partial that
  -- isn't there.
  abbrev pub block_scope : Included → Scope
  block_scope made = h
  block_scope (itself m) = h
  block_scope the_block = h
  block_scope (a_partial m) = if is_there m then h else without_block h

-- ---- trees

module _ (names : Names) (table : List Entry) (t : Option Text) where
  abbrev mutual
    -- in the template of the name `t`
    pub tree_findings : Tree → Scope → List Finding
    tree_findings (tree n es positions) h = elements_findings n positions es h

    -- the elements of a tree of this name
    pub elements_findings : Option Text → List Position → Elements → Scope → List Finding
    elements_findings n ps no_elements h = []
    elements_findings n ps (element e es) h =
        element_findings n (first_position ps) e h ++ elements_findings n (later_positions ps) es (after_element e h)

    pub element_findings : Option Text → Option Position → Element → Scope → List Finding
    element_findings n p (raw_string text) h = []
    element_findings n p (html_expression c) h = call_findings p false c h
    element_findings n p (escaped_expression c) h = call_findings p false c h
    element_findings n p (helper_block c) h = call_findings p true c h
    element_findings n p (decorator_expression d) h = decorator_findings p d
    element_findings n p (decorator_block d) h = decorator_findings p d
    element_findings n p (partial_expression d) h = inclusion_findings n p d h
    element_findings n p (partial_block d) h = inclusion_findings n p d h
    element_findings n p (comment text) h = []

    -- of a block or an expression
    pub call_findings : Option Position → Bool → Call → Scope → List Finding
    call_findings p block (call n xs b (bodies x y) marks) h =
        faults_at t p (whys_of_call names block (call n xs b (bodies x y) marks))
        ++ (body_findings p x h ++ body_findings p y h)

    pub body_findings : Option Position → Body → Scope → List Finding
    body_findings p no_body h = []
    body_findings p (body x) h = faults_at t p (whys_of_body_name (tree_name x)) ++ tree_findings x h

    -- The body of an inline partial is read by what the table has of its name. It isn't read where the table doesn't have it.
    pub decorator_findings : Option Position → Decorator → List Finding
    decorator_findings p (decorator n xs b marks) =
        faults_at t p (whys_of_decorator names (decorator n xs b marks))
        ++ inline_findings b (option_and_then (scope_at table) (inline_name xs))

    pub inline_findings : Body → Option Scope → List Finding
    inline_findings no_body o = []
    inline_findings (body x) None = []
    inline_findings (body x) (Some h) = tree_findings x h

    pub inclusion_findings : Option Text → Option Position → Decorator → Scope → List Finding
    inclusion_findings n p (decorator q xs b marks) h =
        faults_at t p (whys_of_args names xs ++ whys_of_included names.has_template h (included_by n (written_name q)) b)
        ++ (included_findings (included_by n (written_name q)) b (block_scope names.has_template h (included_by n (written_name q)))
        ++ body_findings p b (block_scope names.has_template h (included_by n (written_name q))))

-- ---- what is accepted

-- It is no fault, and what is included is in the table, which says no more than is known there.
abbrev pub is_fine : List Entry → Finding → Bool
is_fine table (fault x) = false
is_fine table (includes n h) = with_or (scope_at table n) (λ g. covers g h) false

abbrev pub AreFine : List Entry → List Finding → Type 0
AreFine table xs = AllByRecursion (λ x. is_fine table x ≡ true) xs
