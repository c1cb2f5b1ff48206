-- What is wrong with the names of a tag and of its arguments.
use Rattle.std.specs.Prelude.{ℕ, zero, suc, Bool, true, false, not, ◌&&◌, ◌||◌, if◌then◌else◌, List, [], ◌∷◌, ◌++◌, Option, None, Some}
use Rattle.std.specs.List.{list_all}
use Rattle.handlebars_base.specs.Bytes.{Text, is_symbol}
use Rattle.handlebars_template.specs.Tree.{Element, escaped_expression, Call, call, call_name, call_args, call_params, is_value, Decorator, decorator, Args, args, args_params, args_hash, Param, name, path, literal, subexpression, Params, no_params, param, Hash, no_hash, hash_pair, Body, no_body, body}
use Rattle.handlebars_helpers.specs.Callee.{Callee, built, user}
use Rattle.handlebars_helpers.specs.Decoration.{DecoratorKind, kind_inline, kind_user}
use Rattle.handlebars_helpers.specs.Choice.{BuiltInKind, kind_if, kind_unless, kind_each, kind_with, kind_lookup, kind_raw, kind_log, kind_eq, kind_ne, kind_gt, kind_gte, kind_lt, kind_lte, kind_and, kind_or, kind_not, kind_len}
use Rattle.handlebars_semantics.specs.Origins.{is_lone}
use Rattle.handlebars_semantics.specs.State.{hook}
use Rattle.handlebars_html.specs.Rule.{written_name, inline_name}
use Rattle.handlebars_names.specs.Faults.{Why, missing_helper, missing_params, made_name, other_decorator, unnamed_inline, empty_inline}
use Rattle.handlebars_names.specs.Names.{Names}

-- ---- parameters

-- how many parameters a built-in helper needs
abbrev pub needed_params : BuiltInKind → ℕ
needed_params kind_if = 1
needed_params kind_unless = 1
needed_params kind_each = 1
needed_params kind_with = 1
needed_params kind_lookup = 2
needed_params kind_raw = 0
needed_params kind_log = 0
needed_params kind_eq = 2
needed_params kind_ne = 2
needed_params kind_gt = 2
needed_params kind_gte = 2
needed_params kind_lt = 2
needed_params kind_lte = 2
needed_params kind_and = 0
needed_params kind_or = 0
needed_params kind_not = 1
needed_params kind_len = 1

-- whether there are so many parameters
abbrev pub has_params : ℕ → Params → Bool
has_params zero ps = true
has_params (suc i) no_params = false
has_params (suc i) (param q qs) = has_params i qs

-- A helper of this kind is called by this name with these parameters.
abbrev pub whys_of_params : Text → BuiltInKind → Params → List Why
whys_of_params n kind ps = if has_params (needed_params kind) ps then [] else missing_params n (needed_params kind) ∷ []

-- ---- calls

-- The name must be written.
abbrev pub by_written_name : Option Text → (Text → List Why) → List Why
by_written_name None whys = made_name ∷ []
by_written_name (Some n) whys = whys n

-- the name of a value, without a dot
abbrev pub is_identifier : Text → Bool
is_identifier [] = false
is_identifier (b ∷ bs) = list_all is_symbol (b ∷ bs)

-- a name that can be read as a path; whether a value is there isn't asked
abbrev pub leads_to_value : Param → Bool
leads_to_value (name n) = is_identifier n
leads_to_value (path r) = true
leads_to_value (literal d) = false
leads_to_value (subexpression e) = false

-- What is wrong with a call of this helper by this name with these parameters; `without`, if there is none.
abbrev pub whys_of_helper : Option Callee → Text → Params → List Why → List Why
whys_of_helper None n ps without = without
whys_of_helper (Some (built kind)) n ps without = whys_of_params n kind ps
whys_of_helper (Some (user called)) n ps without = []

-- an inline partial of this name, if it is written, with this body
abbrev pub whys_of_inline : Option Text → Body → List Why
whys_of_inline None b = unnamed_inline ∷ []
whys_of_inline (Some n) no_body = empty_inline n ∷ []
whys_of_inline (Some n) (body t) = []

-- by the decorator of the tag's name
abbrev pub whys_of_kind : Option DecoratorKind → Text → Option Text → Body → List Why
whys_of_kind None m n b = other_decorator m ∷ []
whys_of_kind (Some kind_inline) m n b = whys_of_inline n b
whys_of_kind (Some (kind_user called)) m n b = other_decorator m ∷ []

-- An expression without arguments is a value. A block without arguments is a section, if sections are allowed and its name is a
-- path or an identifier. Any other call needs a helper.
abbrev pub needs_helper : Bool → Bool → Call → Bool
needs_helper sections block c =
    not (is_lone block c || ((sections && (block && is_value c)) && leads_to_value (call_name c)))

module _ (names : Names) where
  -- A call by this name, of a block or not, with these parameters, calls the helper of the name, else the hook of its kind.
  abbrev pub whys_of_name : Bool → Params → List Why → Text → List Why
  whys_of_name block ps without n =
      whys_of_helper (names.helper n) n ps (whys_of_helper (names.helper (hook block)) (hook block) ps without)

  abbrev pub whys_without_helper : Bool → Call → Text → List Why
  whys_without_helper block c n = if needs_helper names.sections block c then missing_helper n ∷ [] else []

  -- ---- arguments

  abbrev mutual
    pub whys_of_param : Param → List Why
    whys_of_param (name n) = []
    whys_of_param (path r) = []
    whys_of_param (literal d) = []
    whys_of_param (subexpression e) = whys_of_inner e

    -- a call in parentheses, which is one even without parameters
    pub whys_of_inner : Element → List Why
    whys_of_inner (escaped_expression c) = whys_of_inner_call c
    whys_of_inner e = []

    pub whys_of_inner_call : Call → List Why
    whys_of_inner_call (call n (args ps hs) b t marks) =
        whys_of_list ps
        ++ (whys_of_hash hs
        ++ by_written_name (written_name n) (λ m. whys_of_name false ps (missing_helper m ∷ []) m))

    pub whys_of_list : Params → List Why
    whys_of_list no_params = []
    whys_of_list (param q qs) = whys_of_param q ++ whys_of_list qs

    pub whys_of_hash : Hash → List Why
    whys_of_hash no_hash = []
    whys_of_hash (hash_pair k q hs) = whys_of_param q ++ whys_of_hash hs

  abbrev pub whys_of_args : Args → List Why
  whys_of_args xs = whys_of_list (args_params xs) ++ whys_of_hash (args_hash xs)

  -- ---- tags

  -- of a block or an expression
  abbrev pub whys_of_call : Bool → Call → List Why
  whys_of_call block c =
      whys_of_args (call_args c)
      ++ by_written_name (written_name (call_name c))
      (λ n. whys_of_name block (call_params c) (whys_without_helper block c n) n)

  abbrev pub whys_of_decorator : Decorator → List Why
  whys_of_decorator (decorator n xs b marks) =
      whys_of_args xs ++ by_written_name (written_name n) (λ m. whys_of_kind (names.decorator m) m (inline_name xs) b)
