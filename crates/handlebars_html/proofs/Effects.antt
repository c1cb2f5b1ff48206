-- What built-in helpers choose, and what that does: which of their bodies are rendered, or whether a value is written.
use Rattle.std.proofs.Common.{◌≡◌, ℕ, Bool, true, false, not, ◌&&◌, if◌then◌else◌, List, [], ◌∷◌, refl, sym, subst, Option, None, Some, codes}
use Rattle.serde_json.specs.Data.{Data, null, boolean, number, unsigned, string, array, object}
use Rattle.handlebars_base.specs.Answers.{Answer, gives, fails, fails_for, answer_map}
use Rattle.handlebars_base.specs.Equal.{equals}
use Rattle.handlebars_base.specs.Values.{truth, rendered}
use Rattle.handlebars_helpers.specs.Boolean.{differ, greater, greater_or_equal, less, less_or_equal, negation, len}
use Rattle.handlebars_helpers.specs.LogLine.{log_line}
use Rattle.handlebars_helpers.specs.Params.{by_param, two_values}
use Rattle.handlebars_base.specs.Bytes.{Text}
use Rattle.handlebars_base.specs.Optional.{with_or}
use Rattle.handlebars_base.specs.PathAndData.{PathAndData}
use Rattle.handlebars_base.specs.Reasons.{missing_variable, param_not_found_for_index}
use Rattle.handlebars_base.specs.Scoped.{data_in}
use Rattle.handlebars_template.specs.Tree.{Args}
use Rattle.handlebars_scope.specs.Scopes.{Base, base_of}
use Rattle.handlebars_helpers.specs.CallView.{CallView, HelperView, param_at}
use Rattle.handlebars_helpers.specs.Choice.{BuiltInKind, kind_if, kind_unless, kind_each, kind_with, kind_lookup, kind_raw, kind_log, kind_eq, kind_ne, kind_gt, kind_gte, kind_lt, kind_lte, kind_and, kind_or, kind_not, kind_len, Choice, the_body, the_inverse, body_in_block, body_in_iterations, the_value, the_boolean, the_line, the_steps, nothing, body_if, lacks, inverse_or_refusal, iterations_or_inverse, walk_or_inverse, each_choice, with_choice, null_or_refusal, lookup_choice, looked_up, condition, of_two, built_in_choice}
use Rattle.handlebars_helpers.specs.Iterations.{Iteration}
use Rattle.handlebars_helpers.specs.Decoration.{Action, sets_data, binds, unbinds, sets_partial}
use Rattle.handlebars_helpers.specs.SafeUrl.{is_safe_url}
use Rattle.handlebars_semantics.specs.Sections.{section_kind}
use Rattle.handlebars_html.specs.Rule.{Effect, one_branch, iterations, a_value, no_output, effect_of, IsNamed, inline_name}

-- ---- answers

abbrev pub Given : {A : Type 0} → (A → Type 0) → Answer A → Type 0
Given P (gives x) = P x
Given P (fails r) = Unit {0}

given-map : {A B : Type 0} (P : B → Type 0) (f : A → B) (a : Answer A) → ((x : A) → P (f x)) → Given P (answer_map f a)
given-map P f (gives x) h = h x
given-map P f (fails r) h = tt

pub given-with : {A B : Type 0} (P : B → Type 0) (o : Option A) (f : A → Answer B) (other : Answer B) → ((x : A) → Given P (f x))
    → Given P other → Given P (with_or o f other)
given-with P None f other h k = k
given-with P (Some x) f other h k = h x

given-if : {B : Type 0} (P : B → Type 0) (c : Bool) (a b : Answer B) → Given P a → Given P b → Given P (if c then a else b)
given-if P true a b h k = h
given-if P false a b h k = k

pub given-gives : {A : Type 0} (P : A → Type 0) (a : Answer A) (x : A) → gives x ≡ a → Given P a → P x
given-gives P a x is h = subst (Given P) (sym is) h

pub gives-same : {A : Type 0} (x y : A) → gives x ≡ gives y → x ≡ y
gives-same x y is = subst (λ (a : Answer _). Given (λ (z : _). x ≡ z) a) is refl

given-param : {B : Type 0} (P : B → Type 0) (helper : Text) (i : ℕ) (v : CallView) (f : PathAndData → Answer B)
    → ((x : PathAndData) → Given P (f x)) → Given P (by_param helper i v f)
given-param P helper i v f h = given-with P (param_at i v) f (fails_for (param_not_found_for_index helper i)) h tt

-- ---- what each kind may choose, of a block

abbrev pub Fits : Effect → Choice → Type 0
Fits one_branch the_body = Unit {0}
Fits one_branch the_inverse = Unit {0}
Fits one_branch (body_in_block base) = Unit {0}
Fits one_branch (the_boolean b) = Unit {0}
Fits one_branch c = ⊥
Fits iterations the_body = Unit {0}
Fits iterations the_inverse = Unit {0}
Fits iterations (body_in_block base) = Unit {0}
Fits iterations (body_in_iterations names ts) = Unit {0}
Fits iterations nothing = Unit {0}
Fits iterations c = ⊥
Fits a_value (the_value d) = Unit {0}
Fits a_value nothing = Unit {0}
Fits a_value c = ⊥
Fits no_output (the_line level text) = Unit {0}
Fits no_output c = ⊥

body_if-fits : (effect : Effect) → Fits effect the_body → Fits effect the_inverse → (b : Bool) → Fits effect (body_if b)
body_if-fits effect x y true = x
body_if-fits effect x y false = y

inverse-fits : (effect : Effect) → Fits effect the_inverse → (strict : Bool) (h : HelperView) (p : PathAndData)
    → Given (Fits effect) (inverse_or_refusal strict h p)
inverse-fits effect x strict h p =
    given-if (Fits effect) (strict && lacks h.inverse) (fails_for (missing_variable p.relative_path)) (gives the_inverse) tt x

iterations-fit : (names : Option (List Text)) (ts : List Iteration) → Fits iterations (iterations_or_inverse names ts)
iterations-fit names [] = tt
iterations-fit names (t ∷ ts) = tt

walk-fits : (strict : Bool) (h : HelperView) (p : PathAndData) (d : Data) → Given (Fits iterations) (walk_or_inverse strict h p d)
walk-fits strict h p null = inverse-fits iterations tt strict h p
walk-fits strict h p (boolean b) = inverse-fits iterations tt strict h p
walk-fits strict h p (number n) = inverse-fits iterations tt strict h p
walk-fits strict h p (string s) = inverse-fits iterations tt strict h p
walk-fits strict h p (array ds) = iterations-fit _ _
walk-fits strict h p (object ms) = iterations-fit _ _

each-fits : (strict : Bool) (h : HelperView) (p : PathAndData) → Given (Fits iterations) (each_choice strict h p)
each-fits strict h p = given-if (Fits iterations) (lacks h.body) (gives nothing) (walk_or_inverse strict h p (data_in p.found)) tt
    (walk-fits strict h p (data_in p.found))

with-fits : (effect : Effect) → Fits effect the_inverse → ((base : Base) → Fits effect (body_in_block base)) → (strict : Bool) (h : HelperView)
    (p : PathAndData) → Given (Fits effect) (with_choice strict h p)
with-fits effect x y strict h p = given-if (Fits effect) (truth false (data_in p.found)) (gives (body_in_block (base_of p.found)))
    (inverse_or_refusal strict h p) (y (base_of p.found)) (inverse-fits effect x strict h p)

pub null-fits : (strict : Bool) → Given (Fits a_value) (null_or_refusal strict)
null-fits true = tt
null-fits false = tt

two-fit : (strict : Bool) (helper : Text) (h : HelperView) (test : Data → Data → Bool)
    → Given (Fits one_branch) (of_two strict helper h test)
two-fit strict helper h test =
    given-map (Fits one_branch) (λ d. the_boolean (test d.0 d.1)) (two_values strict helper h.call) (λ d. tt)

pub kind-fits : (strict : Bool) (kind : BuiltInKind) (h : HelperView) → Given (Fits (effect_of kind)) (built_in_choice strict kind h)
kind-fits strict kind_if h = given-map (Fits one_branch) body_if (condition h.call) (body_if-fits one_branch tt tt)
kind-fits strict kind_unless h =
    given-map (Fits one_branch) (λ b. body_if (not b)) (condition h.call) (λ b. body_if-fits one_branch tt tt (not b))
kind-fits strict kind_each h =
    given-param (Fits iterations) (codes "each") 0 h.call (each_choice strict h) (each-fits strict h)
kind-fits strict kind_with h =
    given-param (Fits one_branch) (codes "with") 0 h.call (with_choice strict h) (with-fits one_branch tt (λ b. tt) strict h)
kind-fits strict kind_lookup h = given-param (Fits a_value) (codes "lookup") 0 h.call
    (λ p. by_param (codes "lookup") 1 h.call (λ key. lookup_choice strict (data_in p.found) (data_in key.found)))
    (λ p. given-param (Fits a_value) (codes "lookup") 1 h.call (λ key. lookup_choice strict (data_in p.found) (data_in key.found))
    (λ key. given-with (Fits a_value) (looked_up (data_in p.found) (data_in key.found)) (λ x. gives (the_value x))
    (null_or_refusal strict) (λ x. tt) (null-fits strict)))
kind-fits strict kind_raw h = tt
kind-fits strict kind_log h = given-map (Fits no_output) (λ l. the_line l.0 l.1) (log_line h.call) (λ l. tt)
kind-fits strict kind_eq h = two-fit strict (codes "eq") h equals
kind-fits strict kind_ne h = two-fit strict (codes "ne") h differ
kind-fits strict kind_gt h = two-fit strict (codes "gt") h greater
kind-fits strict kind_gte h = two-fit strict (codes "gte") h greater_or_equal
kind-fits strict kind_lt h = two-fit strict (codes "lt") h less
kind-fits strict kind_lte h = two-fit strict (codes "lte") h less_or_equal
kind-fits strict kind_and h = tt
kind-fits strict kind_or h = tt
kind-fits strict kind_not h = given-map (Fits one_branch) (λ b. the_boolean b) (negation strict h.call) (λ b. tt)
kind-fits strict kind_len h = given-map (Fits a_value) (λ n. the_value (number (unsigned n))) (len strict h.call) (λ n. tt)

-- a section is `each`, `if` or `with`
pub section-fits : (strict : Bool) (d : Data) (h : HelperView)
    → Given (Fits iterations) (built_in_choice strict (section_kind d) h)
section-fits strict null h =
    given-param (Fits iterations) (codes "with") 0 h.call (with_choice strict h) (with-fits iterations tt (λ b. tt) strict h)
section-fits strict (boolean b) h = given-map (Fits iterations) body_if (condition h.call) (body_if-fits iterations tt tt)
section-fits strict (number n) h =
    given-param (Fits iterations) (codes "with") 0 h.call (with_choice strict h) (with-fits iterations tt (λ b. tt) strict h)
section-fits strict (string s) h =
    given-param (Fits iterations) (codes "with") 0 h.call (with_choice strict h) (with-fits iterations tt (λ b. tt) strict h)
section-fits strict (array ds) h =
    given-param (Fits iterations) (codes "each") 0 h.call (each_choice strict h) (each-fits strict h)
section-fits strict (object ms) h =
    given-param (Fits iterations) (codes "with") 0 h.call (with_choice strict h) (with-fits iterations tt (λ b. tt) strict h)

-- ---- what no built-in helper chooses

abbrev pub IsNoSteps : Choice → Type 0
IsNoSteps (the_steps steps) = ⊥
IsNoSteps c = Unit {0}

pub fits-no_steps : (effect : Effect) (c : Choice) → Fits effect c → IsNoSteps c
fits-no_steps one_branch the_body h = tt
fits-no_steps one_branch the_inverse h = tt
fits-no_steps one_branch (body_in_block base) h = tt
fits-no_steps one_branch (body_in_iterations names ts) h = tt
fits-no_steps one_branch (the_value d) h = tt
fits-no_steps one_branch (the_boolean b) h = tt
fits-no_steps one_branch (the_line level text) h = tt
fits-no_steps one_branch (the_steps steps) h = h
fits-no_steps one_branch nothing h = tt
fits-no_steps iterations (the_steps steps) h = h
fits-no_steps iterations c h = tt
fits-no_steps a_value (the_steps steps) h = h
fits-no_steps a_value c h = tt
fits-no_steps no_output (the_steps steps) h = h
fits-no_steps no_output c h = tt

-- It is an address that runs no script, or nothing.
abbrev pub IsUrl : Choice → Type 0
IsUrl (the_value d) = is_safe_url (rendered d) ≡ true
IsUrl nothing = Unit {0}
IsUrl c = ⊥

pub null-url : (strict : Bool) → Given IsUrl (null_or_refusal strict)
null-url true = tt
null-url false = refl

-- An inline partial is set under the name that is written, where one is.
abbrev pub IsSet : Args → Action → Type 0
IsSet xs (sets_partial n) = IsNamed (inline_name xs) n
IsSet xs (sets_data d) = ⊥
IsSet xs (binds n l) = ⊥
IsSet xs (unbinds n) = ⊥
