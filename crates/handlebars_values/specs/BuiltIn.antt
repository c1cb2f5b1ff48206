-- What a call of a built-in helper chooses: all that it is called with is evaluated first.
use Rattle.std.specs.Prelude.{◌≡◌, ◌≢◌, ℕ, ◌==◌, Bool, true, false, not, ◌&&◌, if◌then◌else◌, List, [], ◌∷◌, ◌++◌, map, Option, None, Some, codes, length, option_map, slice_get, unwrap_or, ◌-◌, Result, MatchResult}
use denote.Ref.{Bor}
use Rattle.serde_json.specs.Data.{Data, null, boolean, number, unsigned, string, array, object}
use Rattle.serde_json.specs.View.{view}
use Rattle.handlebars_base.specs.Answers.{Answer, gives, fails, fails_for, answer_map}
use Rattle.handlebars_base.specs.Bytes.{Text}
use Rattle.handlebars_base.specs.Optional.{with_or}
use Rattle.handlebars_base.specs.PathAndData.{PathAndData}
use Rattle.handlebars_base.specs.Reasons.{missing_variable, out_of_memory, param_not_found_for_index, param_not_found_for_name}
use Rattle.handlebars_base.specs.RenderRefusals.{reason_in, refusal_of}
use Rattle.handlebars_base.specs.Scoped.{Found, data_in, path_in}
use Rattle.handlebars_base.specs.Values.{truth}
use Rattle.handlebars_base.specs.declared.error.render_error.RenderError.{RenderError}
use Rattle.handlebars_template.specs.Tree.{Args, Hash, Params, args_hash, args_params, as_name}
use Rattle.handlebars_template.specs.TreeView.{param_view}
use Rattle.handlebars_template.specs.declared.template.tree.Parameter.{Parameter}
use Rattle.handlebars_scope.specs.Scopes.{base_of}
use Rattle.handlebars_helpers.specs.Boolean.{all_true, size, some_true}
use Rattle.handlebars_helpers.specs.CallView.{CallView, HelperView, plain_value}
use Rattle.handlebars_helpers.specs.Choice.{BuiltInKind, Choice, body_if, body_in_block, body_in_iterations, built_in_choice, lacks, looked_up, nothing, null_or_refusal, the_boolean, the_inverse, the_line, the_value}
use Rattle.handlebars_helpers.specs.Choice as kinds
use Rattle.handlebars_helpers.specs.Iterations.{item_count, iterations_of, member_count}
use Rattle.handlebars_helpers.specs.LogLine.{log_line}
use Rattle.handlebars_helpers.specs.Params.{is_missing}
use Rattle.handlebars_semantics.specs.Asks.{Asks, only, ◌>>=◌}
use Rattle.handlebars_semantics.specs.State.{Setting, State}
use Rattle.handlebars_semantics.specs.Values.{HashHasValues, HasWrittenValue, HaveValues}
use Rattle.handlebars_values.specs.ChoiceView.{test_of}
use Rattle.handlebars_values.specs.declared.boolean.Test.{Test}
use Rattle.handlebars_values.specs.declared.boolean.Test.TheVariants as test
use Rattle.handlebars_values.specs.declared.built_in.Asked.{Asked}
use Rattle.handlebars_values.specs.declared.by_first.ByFirst.{ByFirst}
use Rattle.handlebars_values.specs.declared.by_first.ByFirst.TheVariants as first
use Rattle.handlebars_values.specs.declared.by_two.ByTwo.{ByTwo}
use Rattle.handlebars_values.specs.declared.by_two.ByTwo.TheVariants as two

-- ---- a call of a built-in helper

-- The call has a body and an inverse where the code says so.
pub record AsksFor (a : Asked) (h : HelperView) : Type 0 where
  pub body : lacks h.body ≡ not a.has_body
  pub inverse : lacks h.inverse ≡ not a.has_inverse

-- what a helper is passed: the values in order, and those of the hash arguments in order of key
abbrev pub Passed : Type 0
Passed = List PathAndData × List (Text × PathAndData)

-- The constants are passed before the parameters, which are evaluated in order. Then the hash arguments are evaluated.
abbrev pub HavePassed : Setting → State → List Data → Args → Asks Passed
HavePassed p s constants xs =
    HaveValues p s (args_params xs) >>= (λ vs. HashHasValues p s (args_hash xs) >>= (λ ws.
    only (gives (map plain_value constants ++ vs, ws))))

-- the view of a call that passes this
abbrev pub passing : HelperView → Passed → HelperView
passing h x = record h { call = record h.call { params = x.0; hash = x.1 } }

-- What a helper chooses for a call of this view, once all is evaluated.
abbrev pub HasBuiltInChoice : Setting → State → BuiltInKind → List Data → Args → HelperView → Asks Choice
HasBuiltInChoice p s kind constants xs h =
    HavePassed p s constants xs >>= (λ passed. only (built_in_choice p.parts.strict kind (passing h passed)))

-- ---- values that are evaluated one after the other

-- The question gives a value of which this holds, or it fails as the call does, or memory runs out.
abbrev pub Evaluates : {T A : Type 0} → Asks A → (A → T → Type 0) → Result T RenderError → Type 0
Evaluates {A = A} m is r =
    MatchResult r (λ x. (a : A) × m (gives a) × is a x) (λ e. reason_in e ≢ out_of_memory → m (fails (refusal_of e)))

abbrev pub HasParamValue : Setting → State → Option Parameter → Asks (Option PathAndData)
HasParamValue p s None = only (gives None)
HasParamValue p s (Some q) = HasWrittenValue p s (param_view q) >>= (λ d. only (gives (Some d)))

abbrev pub HasConstantOr : Option Data → Asks (Option PathAndData) → Asks (Option PathAndData)
HasConstantOr None other = other
HasConstantOr (Some d) other = only (gives (Some (plain_value d)))

-- the value at an index among the constants and the parameters after them, if there is one
abbrev pub HasValueAt : Setting → State → List Data → List Parameter → ℕ → Asks (Option PathAndData)
HasValueAt p s constants qs i = HasConstantOr (slice_get constants i) (HasParamValue p s (slice_get qs (i - length constants)))

abbrev pub found_in : Option PathAndData → Option Found
found_in o = option_map (λ p. p.found) o

-- a call that passes this, by no name
abbrev pub passed_call : Passed → CallView
passed_call x = record { name = []; params = x.0; hash = x.1 }

-- what `log` chooses
abbrev pub logged : List PathAndData → List (Text × PathAndData) → Answer Choice
logged vs ws = answer_map (λ line. the_line line.0 line.1) (log_line (passed_call (vs, ws)))

-- whether all count as true, or else whether some does
abbrev pub truth_of : Bool → List PathAndData → Bool
truth_of true ps = all_true ps
truth_of false ps = some_true ps

abbrev pub kind_by_truth : Bool → BuiltInKind
kind_by_truth true = kinds.kind_and
kind_by_truth false = kinds.kind_or

-- ---- what helpers decide by the first value

-- the text of a parameter as written, if there is one and it has one
abbrev pub written_by : Option (Bor Parameter) → Option Text
written_by None = None
written_by (Some q) = as_name (param_view q.now)

-- the text as written of the first value, if that is of a parameter
abbrev pub written_first : List Data → List Parameter → Option Text
written_first [] [] = None
written_first [] (q ∷ qs) = as_name (param_view q)
written_first (c ∷ cs) qs = None

abbrev pub kind_by_first : ByFirst → BuiltInKind
kind_by_first first.If = kinds.kind_if
kind_by_first first.Unless = kinds.kind_unless
kind_by_first first.Each = kinds.kind_each
kind_by_first first.With = kinds.kind_with
kind_by_first first.Not = kinds.kind_not
kind_by_first first.Len = kinds.kind_len

-- the error for an absent parameter, counted from 0
abbrev pub absent : {A : Type 0} → Text → ℕ → Answer A
absent helper i = fails_for (param_not_found_for_index helper i)

-- by a value that is found, or an error for an absent parameter
abbrev pub by_found : {A : Type 0} → Text → ℕ → Option Found → (Found → Answer A) → Answer A
by_found helper i o f = with_or o f (absent helper i)

-- In strict mode a call without an inverse fails.
abbrev pub inverse_or_error : Bool → Asked → Option Text → Answer Choice
inverse_or_error strict a written = if strict && not a.has_inverse then fails_for (missing_variable written) else gives the_inverse

-- whether an array or an object has members; nothing for any other value
abbrev pub has_members : Data → Option Bool
has_members null = None
has_members (boolean b) = None
has_members (number n) = None
has_members (string s) = None
has_members (array ds) = Some (not (item_count ds == 0))
has_members (object ms) = Some (not (member_count ms == 0))

-- An array or an object with members is iterated over, and an empty one gives the inverse, as any other value does.
abbrev pub walk_of : Bool → Asked → Option Text → Found → Option Bool → Answer Choice
walk_of strict a written f None = inverse_or_error strict a written
walk_of strict a written f (Some true) = gives (body_in_iterations (path_in f) (iterations_of (data_in f)))
walk_of strict a written f (Some false) = gives the_inverse

abbrev pub each_of : Bool → Asked → Option Text → Found → Answer Choice
each_of strict a written f = if not a.has_body then gives nothing else walk_of strict a written f (has_members (data_in f))

abbrev pub with_of : Bool → Asked → Option Text → Found → Answer Choice
with_of strict a written f = if truth false (data_in f) then gives (body_in_block (base_of f)) else inverse_or_error strict a written

-- a value, which in strict mode may not be missing
abbrev pub required : {A : Type 0} → Bool → Answer A → (Data → Answer A) → Found → Answer A
required strict missing_one f found = if strict && is_missing found then missing_one else f (data_in found)

-- the error of a call without parameters
abbrev pub absent_first : ByFirst → Answer Choice
absent_first first.If = absent (codes "if") 0
absent_first first.Unless = absent (codes "if") 0
absent_first first.Each = absent (codes "each") 0
absent_first first.With = absent (codes "with") 0
absent_first first.Not = absent (codes "not") 0
absent_first first.Len = fails_for (param_not_found_for_name (codes "len") (codes "x"))

-- What a helper decides in strict mode or not, by the first value, of a parameter as written, and by whether 0 counts as true.
abbrev pub decided_by_value : ByFirst → Bool → Asked → Option Text → Bool → Found → Answer Choice
decided_by_value first.If strict a written zero f = gives (body_if (truth zero (data_in f)))
decided_by_value first.Unless strict a written zero f = gives (body_if (not (truth zero (data_in f))))
decided_by_value first.Each strict a written zero f = each_of strict a written f
decided_by_value first.With strict a written zero f = with_of strict a written f
decided_by_value first.Not strict a written zero f =
    required strict (absent_first first.Not) (λ d. gives (the_boolean (not (truth false d)))) f
decided_by_value first.Len strict a written zero f =
    required strict (absent_first first.Len) (λ d. gives (the_value (number (unsigned (size d))))) f

abbrev pub decided_by_first : ByFirst → Bool → Asked → Option Text → Bool → Option Found → Answer Choice
decided_by_first by strict a written zero o = with_or o (decided_by_value by strict a written zero) (absent_first by)

-- ---- what helpers decide by two values

-- the names of the helpers that test two values
abbrev pub test_name : Test → Text
test_name test.Equal = codes "eq"
test_name test.Differ = codes "ne"
test_name test.Greater = codes "gt"
test_name test.GreaterOrEqual = codes "gte"
test_name test.Less = codes "lt"
test_name test.LessOrEqual = codes "lte"

abbrev pub kind_by_test : Test → BuiltInKind
kind_by_test test.Equal = kinds.kind_eq
kind_by_test test.Differ = kinds.kind_ne
kind_by_test test.Greater = kinds.kind_gt
kind_by_test test.GreaterOrEqual = kinds.kind_gte
kind_by_test test.Less = kinds.kind_lt
kind_by_test test.LessOrEqual = kinds.kind_lte

abbrev pub kind_by_two : ByTwo → BuiltInKind
kind_by_two two.Lookup = kinds.kind_lookup
kind_by_two (two.Test t) = kind_by_test t

-- the value under which a member is looked up; a missing one is null
abbrev pub data_or_null : Option Data → Data
data_or_null o = unwrap_or o null

-- what is picked, which in strict mode may not be missing
abbrev pub picked_choice : Bool → Option Data → Answer Choice
picked_choice strict o = with_or o (λ d. gives (the_value d)) (null_or_refusal strict)

-- A value that a test requires. A missing one counts as null, and in strict mode as absent.
abbrev pub required_data : Bool → Option Found → Option Data
required_data strict None = None
required_data strict (Some f) = if strict && is_missing f then None else Some (data_in f)

-- In strict mode or not, by two values, of which the first is read first.
abbrev pub decided_by_two : ByTwo → Bool → Option Found → Option Found → Answer Choice
decided_by_two two.Lookup strict o q =
    by_found (codes "lookup") 0 o (λ f. by_found (codes "lookup") 1 q (λ key.
    picked_choice strict (looked_up (data_in f) (data_in key))))
decided_by_two (two.Test t) strict o q =
    with_or (required_data strict o) (λ x. with_or (required_data strict q) (λ y. gives (the_boolean (test_of t x y)))
    (absent (test_name t) 1)) (absent (test_name t) 0)
