-- The built-in helpers by their names, and what each chooses for the view of its call, in strict mode or not.
use Rattle.std.specs.Prelude.{Bool, true, false, not, ◌&&◌, if◌then◌else◌, List, [], ◌∷◌, Option, None, Some, codes, unwrap_or}
use Rattle.std.specs.Map.{lookup}
use Rattle.std.specs.Str.{bytes_eq}
use Rattle.serde_json.specs.Data.{Data, null, boolean, number, unsigned, string, array, object}
use Rattle.serde_json.specs.Find.{as_bool, as_number, as_str, as_u64, at, get}
use Rattle.log.specs.declared.level.Level.{Level}
use Rattle.handlebars_base.specs.Answers.{Answer, gives, fails_for, answer_map}
use Rattle.handlebars_base.specs.Bytes.{Text}
use Rattle.handlebars_base.specs.Equal.{equals}
use Rattle.handlebars_base.specs.PathAndData.{PathAndData}
use Rattle.handlebars_base.specs.Optional.{◌>>=◌, with_or}
use Rattle.handlebars_base.specs.Reasons.{missing_variable}
use Rattle.handlebars_base.specs.Scoped.{data_in, path_in}
use Rattle.handlebars_base.specs.Values.{truth}
use Rattle.handlebars_template.specs.Tree.{Body, no_body, body}
use Rattle.handlebars_scope.specs.Scopes.{Base, base_of}
use Rattle.handlebars_scope.specs.Resolve.{or_else}
use Rattle.handlebars_helpers.specs.CallView.{CallView, HelperView, hash_at}
use Rattle.handlebars_helpers.specs.Params.{by_param, two_values}
use Rattle.handlebars_helpers.specs.Boolean.{differ, greater, greater_or_equal, less, less_or_equal, negation, all_true, some_true, len}
use Rattle.handlebars_helpers.specs.LogLine.{log_line}
use Rattle.handlebars_helpers.specs.UserHelper.{Step}
use Rattle.handlebars_helpers.specs.Iterations.{Iteration, iterations_of}

pub data BuiltInKind : Type 0 where
  kind_if : BuiltInKind
  kind_unless : BuiltInKind
  kind_each : BuiltInKind
  kind_with : BuiltInKind
  kind_lookup : BuiltInKind
  kind_raw : BuiltInKind
  kind_log : BuiltInKind
  kind_eq : BuiltInKind
  kind_ne : BuiltInKind
  kind_gt : BuiltInKind
  kind_gte : BuiltInKind
  kind_lt : BuiltInKind
  kind_lte : BuiltInKind
  kind_and : BuiltInKind
  kind_or : BuiltInKind
  kind_not : BuiltInKind
  kind_len : BuiltInKind

-- the helpers that every registry begins with
abbrev pub built_ins : List (Text × BuiltInKind)
built_ins =
    (codes "if", kind_if) ∷ (codes "unless", kind_unless) ∷ (codes "each", kind_each) ∷ (codes "with", kind_with) ∷
    (codes "lookup", kind_lookup) ∷ (codes "raw", kind_raw) ∷ (codes "log", kind_log) ∷ (codes "eq", kind_eq) ∷
    (codes "ne", kind_ne) ∷ (codes "gt", kind_gt) ∷ (codes "gte", kind_gte) ∷ (codes "lt", kind_lt) ∷
    (codes "lte", kind_lte) ∷ (codes "and", kind_and) ∷ (codes "or", kind_or) ∷ (codes "not", kind_not) ∷
    (codes "len", kind_len) ∷ []

-- the built-in helper of a name
abbrev pub built_in : Text → Option BuiltInKind
built_in name = lookup (bytes_eq name) built_ins

-- What is rendered for a call: its body or its inverse, if it has that one; its body in a scope frame with a base; its body
-- once for each iteration, all iterations in one scope frame, with the path of what is iterated over, if it has one; a value;
-- the text of a boolean helper, or in a block the body or the inverse by the boolean; the steps of a user-defined helper; or
-- nothing, with or without a line for the logger.
pub data Choice : Type 0 where
  the_body : Choice
  the_inverse : Choice
  body_in_block : Base → Choice
  body_in_iterations : Option (List Text) → List Iteration → Choice
  the_value : Data → Choice
  the_boolean : Bool → Choice
  the_line : Level → Text → Choice
  the_steps : List Step → Choice
  nothing : Choice

-- the value that is chosen, if one is; a boolean helper's is a boolean
abbrev pub value_in : Choice → Option Data
value_in the_body = None
value_in the_inverse = None
value_in (body_in_block base) = None
value_in (body_in_iterations path ts) = None
value_in (the_value d) = Some d
value_in (the_boolean b) = Some (boolean b)
value_in (the_line level text) = None
value_in (the_steps steps) = None
value_in nothing = None

-- ---- `if` and `unless`

abbrev pub body_if : Bool → Choice
body_if true = the_body
body_if false = the_inverse

-- whether 0 counts as true: the value of the hash argument `includeZero`, if that is a boolean
abbrev pub includes_zero : CallView → Bool
includes_zero v = with_or (hash_at (codes "includeZero") v) (λ p. unwrap_or (as_bool (data_in p.found)) false) false

-- Whether a call's first parameter counts as true. Without one both helpers fail, under the name `if`.
abbrev pub condition : CallView → Answer Bool
condition v = by_param (codes "if") 0 v (λ p. gives (truth (includes_zero v) (data_in p.found)))

-- ---- the inverse, of `each` and `with`

abbrev pub lacks : Body → Bool
lacks no_body = true
lacks (body t) = false

-- In strict mode a call without an inverse fails with `missing_variable`, with its first parameter as written.
abbrev pub inverse_or_refusal : Bool → HelperView → PathAndData → Answer Choice
inverse_or_refusal strict h p =
    if strict && lacks h.inverse then fails_for (missing_variable p.relative_path) else gives the_inverse

-- ---- `each`

-- A value with members gives their iterations, an empty one the inverse.
abbrev pub iterations_or_inverse : Option (List Text) → List Iteration → Choice
iterations_or_inverse path [] = the_inverse
iterations_or_inverse path (t ∷ ts) = body_in_iterations path (t ∷ ts)

-- An array or an object is iterated over; for any other value the inverse is chosen.
abbrev pub walk_or_inverse : Bool → HelperView → PathAndData → Data → Answer Choice
walk_or_inverse strict h p null = inverse_or_refusal strict h p
walk_or_inverse strict h p (boolean b) = inverse_or_refusal strict h p
walk_or_inverse strict h p (number n) = inverse_or_refusal strict h p
walk_or_inverse strict h p (string s) = inverse_or_refusal strict h p
walk_or_inverse strict h p (array ds) = gives (iterations_or_inverse (path_in p.found) (iterations_of (array ds)))
walk_or_inverse strict h p (object ms) = gives (iterations_or_inverse (path_in p.found) (iterations_of (object ms)))

-- A call without a body does nothing.
abbrev pub each_choice : Bool → HelperView → PathAndData → Answer Choice
each_choice strict h p = if lacks h.body then gives nothing else walk_or_inverse strict h p (data_in p.found)

-- ---- `with`

abbrev pub with_choice : Bool → HelperView → PathAndData → Answer Choice
with_choice strict h p =
    if truth false (data_in p.found) then gives (body_in_block (base_of p.found)) else inverse_or_refusal strict h p

-- ---- `lookup`

-- The member of an object under a string, and the item of an array at a whole number from 0; none for any other key.
abbrev pub looked_up : Data → Data → Option Data
looked_up d key = or_else (as_str key >>= λ k. get k d) ((as_number key >>= as_u64) >>= λ i. at i d)

-- nothing found: null, and in strict mode an error
abbrev pub null_or_refusal : Bool → Answer Choice
null_or_refusal strict = if strict then fails_for (missing_variable None) else gives (the_value null)

abbrev pub lookup_choice : Bool → Data → Data → Answer Choice
lookup_choice strict d key = with_or (looked_up d key) (λ x. gives (the_value x)) (null_or_refusal strict)

-- ---- boolean helpers

-- what a boolean helper chooses by a test of two values
abbrev pub of_two : Bool → Text → HelperView → (Data → Data → Bool) → Answer Choice
of_two strict helper h test = answer_map (λ d. the_boolean (test d.0 d.1)) (two_values strict helper h.call)

-- ---- what each helper chooses, in strict mode or not

-- `if` gives the body if its condition is true, `unless` if it is not; both give the inverse otherwise. `each` gives the body
-- in iterations, and `with` in a scope frame. `lookup` and `len` give a value. `raw` gives the body, and `log` its line. The
-- others are boolean.
abbrev pub built_in_choice : Bool → BuiltInKind → HelperView → Answer Choice
built_in_choice strict kind_if h = answer_map body_if (condition h.call)
built_in_choice strict kind_unless h = answer_map (λ b. body_if (not b)) (condition h.call)
built_in_choice strict kind_each h = by_param (codes "each") 0 h.call (each_choice strict h)
built_in_choice strict kind_with h = by_param (codes "with") 0 h.call (with_choice strict h)
built_in_choice strict kind_lookup h =
    by_param (codes "lookup") 0 h.call (λ p. by_param (codes "lookup") 1 h.call (λ key.
    lookup_choice strict (data_in p.found) (data_in key.found)))
built_in_choice strict kind_raw h = gives the_body
built_in_choice strict kind_log h = answer_map (λ line. the_line line.0 line.1) (log_line h.call)
built_in_choice strict kind_eq h = of_two strict (codes "eq") h equals
built_in_choice strict kind_ne h = of_two strict (codes "ne") h differ
built_in_choice strict kind_gt h = of_two strict (codes "gt") h greater
built_in_choice strict kind_gte h = of_two strict (codes "gte") h greater_or_equal
built_in_choice strict kind_lt h = of_two strict (codes "lt") h less
built_in_choice strict kind_lte h = of_two strict (codes "lte") h less_or_equal
built_in_choice strict kind_and h = gives (the_boolean (all_true h.call.params))
built_in_choice strict kind_or h = gives (the_boolean (some_true h.call.params))
built_in_choice strict kind_not h = answer_map (λ b. the_boolean b) (negation strict h.call)
built_in_choice strict kind_len h = answer_map (λ n. the_value (number (unsigned n))) (len strict h.call)
