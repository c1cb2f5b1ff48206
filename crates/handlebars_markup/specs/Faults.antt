-- What breaks blindness: in a template each location with its reason, and in a registry each reason.
use Rattle.std.specs.Prelude.{◌≡◌, ◌↔◌, ℕ, Bool, true, false, List, [], ◌∷◌, ◌++◌, map, Option, None, Some, option_map, unwrap_or}
use Rattle.handlebars_base.specs.Bytes.{Text}
use Rattle.handlebars_base.specs.EscapeLaws.{marks_in}
use Rattle.handlebars_base.specs.Path.{raw_of}
use Rattle.handlebars_base.specs.Values.{rendered}
use Rattle.handlebars_template.specs.Position.{Position}
use Rattle.handlebars_template.specs.Tree.{Tree, tree, Elements, no_elements, element, Element, raw_string, html_expression, escaped_expression, helper_block, decorator_expression, decorator_block, partial_expression, partial_block, comment, Call, call, Decorator, decorator, DecoratorMarks, Args, args, args_params, args_hash, Param, name, path, literal, subexpression, Params, no_params, param, Hash, no_hash, hash_pair, lacks_hash, Bodies, bodies, Body, no_body, body}
use Rattle.handlebars_helpers.specs.Escaping.{Escaping, for_html, for_plain, by_user}
use Rattle.handlebars_helpers.specs.UserAnswers.{Registrations}
use Rattle.handlebars_semantics.specs.State.{hook}
use Rattle.handlebars_markup.specs.Blind.{calls_blind, decorates_blind, IsBlindTree, HasBlindParts}

-- Why a template isn't blind: an html expression writes its value unescaped; a call in parentheses makes a name; the helper
-- that is registered under this name reads what texts are or how long they are, or is user-defined; a user-defined decorator
-- is registered under this name; a decorator takes a name from a value, since its first parameter is no literal; an inclusion
-- has hash arguments; the indentation of an inclusion has marks. Why a registry isn't: values aren't escaped for html; the
-- hook of this name isn't blind.
pub data Why : Type 0 where
  unescaped_value : Why
  made_name : Why
  reading_helper : Text → Why
  user_decorator : Text → Why
  name_from_value : Why
  inclusion_hash : Why
  marked_indent : Why
  other_escape : Why
  reading_hook : Text → Why

-- in which template, if it has a name; at which line and column, if they are known; and why
pub record Fault : Type 0 where
  pub template : Option Text
  pub line : Option ℕ
  pub column : Option ℕ
  pub why : Why

-- all at one position
abbrev pub faults_at : Option Text → Option Position → List Why → List Fault
faults_at n p ws = map (λ w. record {
  template = n;
  line = option_map (λ (q : Position). q.line) p;
  column = option_map (λ (q : Position). q.column) p;
  why = w;
}) ws

abbrev pub unless : Bool → Why → List Why
unless true w = []
unless false w = w ∷ []

-- ---- what is wrong with a tag

-- with its name, if what is registered under a written name breaks blindness for these reasons
abbrev pub whys_of_name : (Text → List Why) → Param → List Why
whys_of_name under (name n) = under n
whys_of_name under (path p) = under (raw_of p)
whys_of_name under (literal d) = under (rendered d)
whys_of_name under (subexpression e) = made_name ∷ []

-- with the first parameter of a decorator
abbrev pub whys_of_first : Params → List Why
whys_of_first no_params = []
whys_of_first (param (name n) qs) = name_from_value ∷ []
whys_of_first (param (path p) qs) = name_from_value ∷ []
whys_of_first (param (literal d) qs) = []
whys_of_first (param (subexpression e) qs) = name_from_value ∷ []

-- with an indentation, by its marks
abbrev pub whys_of_marks : Text → List Why
whys_of_marks [] = []
whys_of_marks (b ∷ bs) = marked_indent ∷ []

abbrev pub whys_of_indent : DecoratorMarks → List Why
whys_of_indent m = whys_of_marks (marks_in (unwrap_or m.indent []))

module _ (r : Registrations) where
  -- with what is registered under a name of helpers, and of decorators
  abbrev pub whys_of_helper : Text → List Why
  whys_of_helper n = unless (calls_blind r n) (reading_helper n)

  abbrev pub whys_of_decorator : Text → List Why
  whys_of_decorator n = unless (decorates_blind r n) (user_decorator n)

  -- With its name first, then with its parameters and its hash arguments, and with the calls in parentheses among them.
  abbrev mutual
    pub whys_of_call : Call → List Why
    whys_of_call (call n xs b t m) = whys_of_name whys_of_helper n ++ whys_of_args xs

    pub whys_of_args : Args → List Why
    whys_of_args (args ps hs) = whys_of_params ps ++ whys_of_hash hs

    pub whys_of_params : Params → List Why
    whys_of_params no_params = []
    whys_of_params (param q qs) = whys_of_param q ++ whys_of_params qs

    pub whys_of_hash : Hash → List Why
    whys_of_hash no_hash = []
    whys_of_hash (hash_pair k q hs) = whys_of_param q ++ whys_of_hash hs

    pub whys_of_param : Param → List Why
    whys_of_param (name n) = []
    whys_of_param (path p) = []
    whys_of_param (literal d) = []
    whys_of_param (subexpression e) = whys_of_inner e

    pub whys_of_inner : Element → List Why
    whys_of_inner (raw_string t) = []
    whys_of_inner (html_expression c) = []
    whys_of_inner (escaped_expression c) = whys_of_call c
    whys_of_inner (helper_block c) = []
    whys_of_inner (decorator_expression t) = []
    whys_of_inner (decorator_block t) = []
    whys_of_inner (partial_expression t) = []
    whys_of_inner (partial_block t) = []
    whys_of_inner (comment t) = []

  abbrev pub whys_of_tag : Decorator → List Why
  whys_of_tag (decorator n xs b m) =
      whys_of_name whys_of_decorator n ++ whys_of_first (args_params xs) ++ whys_of_args xs

  abbrev pub whys_of_inclusion : Decorator → List Why
  whys_of_inclusion (decorator n xs b m) =
      whys_of_name (λ t. []) n ++ unless (lacks_hash (args_hash xs)) inclusion_hash ++ whys_of_indent m ++ whys_of_args xs

-- ---- what is wrong in a template

abbrev pub first_position : List Position → Option Position
first_position [] = None
first_position (p ∷ ps) = Some p

abbrev pub later_positions : List Position → List Position
later_positions [] = []
later_positions (p ∷ ps) = ps

-- In the order of the source, in the template of this name: for each element first what is wrong with its tag, all at its
-- position, and then what is wrong in its body and in its inverse, whose elements have their own positions.
module _ (r : Registrations) (n : Option Text) where
  abbrev mutual
    pub faults_of_tree : Tree → List Fault
    faults_of_tree (tree m es ps) = faults_of_elements ps es

    pub faults_of_elements : List Position → Elements → List Fault
    faults_of_elements ps no_elements = []
    faults_of_elements ps (element e es) = faults_of_element (first_position ps) e ++ faults_of_elements (later_positions ps) es

    -- An html expression is one fault; what is in it isn't checked.
    pub faults_of_element : Option Position → Element → List Fault
    faults_of_element p (raw_string t) = []
    faults_of_element p (html_expression c) = faults_at n p (unescaped_value ∷ [])
    faults_of_element p (escaped_expression c) = faults_of_call p c
    faults_of_element p (helper_block c) = faults_of_call p c
    faults_of_element p (decorator_expression t) = faults_of_tag p t
    faults_of_element p (decorator_block t) = faults_of_tag p t
    faults_of_element p (partial_expression t) = faults_of_inclusion p t
    faults_of_element p (partial_block t) = faults_of_inclusion p t
    faults_of_element p (comment t) = []

    pub faults_of_call : Option Position → Call → List Fault
    faults_of_call p (call m xs b t s) = faults_at n p (whys_of_call r (call m xs b t s)) ++ faults_of_bodies t

    pub faults_of_tag : Option Position → Decorator → List Fault
    faults_of_tag p (decorator m xs b s) = faults_at n p (whys_of_tag r (decorator m xs b s)) ++ faults_of_body b

    pub faults_of_inclusion : Option Position → Decorator → List Fault
    faults_of_inclusion p (decorator m xs b s) = faults_at n p (whys_of_inclusion r (decorator m xs b s)) ++ faults_of_body b

    pub faults_of_bodies : Bodies → List Fault
    faults_of_bodies (bodies b i) = faults_of_body b ++ faults_of_body i

    pub faults_of_body : Body → List Fault
    faults_of_body no_body = []
    faults_of_body (body t) = faults_of_tree t

-- ---- what is wrong with a registry

abbrev pub whys_of_escape : Escaping → List Why
whys_of_escape for_html = []
whys_of_escape for_plain = other_escape ∷ []
whys_of_escape by_user = other_escape ∷ []

module _ (r : Registrations) where
  -- with a hook: of blocks, or of all other calls
  abbrev pub whys_of_hook : Bool → List Why
  whys_of_hook block = unless (calls_blind r (hook block)) (reading_hook (hook block))

  -- with how values are escaped, and with the two hooks; in no template, and at no position
  abbrev pub faults_of_parts : List Fault
  faults_of_parts = faults_at None None (whys_of_escape r.escape ++ whys_of_hook false ++ whys_of_hook true)

-- ---- laws

-- A template without faults is blind, and a blind one has none.
abbrev pub DecideTrees : Type 0
DecideTrees = (r : Registrations) (n : Option Text) (t : Tree) → (faults_of_tree r n t ≡ []) ↔ IsBlindTree r t

-- A registry without faults has blind parts, and one with blind parts has no faults.
abbrev pub DecideParts : Type 0
DecideParts = (r : Registrations) → (faults_of_parts r ≡ []) ↔ HasBlindParts r
