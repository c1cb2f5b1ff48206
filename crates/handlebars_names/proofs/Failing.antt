-- For what paths and helpers fail.
use Rattle.std.proofs.Common.{◌≡◌, ℕ, zero, suc, Bool, true, false, not, ◌&&◌, if◌then◌else◌, List, [], ◌∷◌, refl, sym, subst, Option, None, Some, codes}
use Rattle.std.specs.List.{slice_get}
use Rattle.serde_json.specs.Data.{Data, null, boolean, number, unsigned, string, array, object, Items}
use Rattle.handlebars_base.specs.Answers.{Answer, gives, fails, fails_for, answer_map}
use Rattle.handlebars_base.specs.Bytes.{Text}
use Rattle.handlebars_base.specs.Equal.{equals}
use Rattle.handlebars_base.specs.Optional.{with_or}
use Rattle.handlebars_base.specs.Path.{Reference, relative, variable}
use Rattle.handlebars_base.specs.PathAndData.{PathAndData}
use Rattle.handlebars_base.specs.Reasons.{Refusal, missing_variable, param_not_found_for_index, invalid_logging_level}
use Rattle.handlebars_base.specs.Scoped.{Found, data_in}
use Rattle.handlebars_base.specs.Values.{truth}
use Rattle.log.specs.Level.{parse_level}
use Rattle.handlebars_scope.specs.Resolve.{item_at, member_at, index_of, then_at, value_at, found_along, found_within, Resolution, in_block_value, along, under_prefix, found_by, resolution_of, resolve}
use Rattle.handlebars_scope.specs.Scopes.{base_of}
use Rattle.handlebars_helpers.specs.Boolean.{differ, greater, greater_or_equal, less, less_or_equal, negation, len, size, no_x}
use Rattle.handlebars_helpers.specs.CallView.{CallView, HelperView, param_at}
use Rattle.handlebars_helpers.specs.Choice.{BuiltInKind, kind_if, kind_unless, kind_each, kind_with, kind_lookup, kind_raw, kind_log, kind_eq, kind_ne, kind_gt, kind_gte, kind_lt, kind_lte, kind_and, kind_or, kind_not, kind_len, the_value, the_boolean, the_line, the_inverse, nothing, body_in_block, body_if, includes_zero, condition, lacks, inverse_or_refusal, walk_or_inverse, each_choice, with_choice, looked_up, null_or_refusal, of_two, built_in_choice}
use Rattle.handlebars_helpers.specs.LogLine.{log_line, level_text, line_text}
use Rattle.handlebars_helpers.specs.Params.{is_missing, by_param, by_value, two_values}
use Rattle.handlebars_semantics.specs.State.{Parts, Setting, State, data_at}
use Rattle.handlebars_semantics.specs.Values.{without_path, as_read, path_value}
use Rattle.handlebars_names.specs.Law.{IsStillPossible, for_index, for_variable, for_parameter, for_named_parameter, for_level}
use Rattle.handlebars_names.specs.Whys.{needed_params}

-- ---- answers

module _ (p : Parts) where
  -- It fails, if it does, for what is still possible.
  abbrev pub IsServed : {A : Type 0} → Answer A → Type 0
  IsServed (gives x) = Unit {0}
  IsServed (fails r) = IsStillPossible p r.reason

  pub served-fails : {A : Type 0} (a : Answer A) (r : Refusal) → fails r ≡ a → IsServed a → IsStillPossible p r.reason
  served-fails a r is h = subst IsServed (sym is) h

  pub map-served : {A B : Type 0} (f : A → B) (a : Answer A) → IsServed a → IsServed (answer_map f a)
  map-served f (gives x) h = tt
  map-served f (fails r) h = h

  with-served : {A B : Type 0} (o : Option A) (f : A → Answer B) (other : Answer B) → ((x : A) → IsServed (f x))
      → (o ≡ None → IsServed other) → IsServed (with_or o f other)
  with-served None f other h k = k refl
  with-served (Some x) f other h k = h x

  and-left : (a b : Bool) → (a && b) ≡ true → a ≡ true
  and-left true b is = refl
  and-left false b is = is

  -- It fails only in strict mode.
  strict-served : {A : Type 0} (strict b : Bool) (x y : Answer A) → (strict ≡ true → IsServed x) → IsServed y
      → IsServed (if strict && b then x else y)
  strict-served strict b x y h k = by (strict && b) refl
    where
      by : (c : Bool) → (strict && b) ≡ c → IsServed (if c then x else y)
      by true is = h (and-left strict b is)
      by false is = k

  -- ---- paths

  item_at-served : (ds : Items) (n : Text) (o : Option ℕ) → IsServed (item_at ds n o)
  item_at-served ds n (Some i) = tt
  item_at-served ds n None = for_index

  member_at-served : (d : Data) (n : Text) → IsServed (member_at d n)
  member_at-served null n = tt
  member_at-served (boolean b) n = tt
  member_at-served (number x) n = tt
  member_at-served (string s) n = tt
  member_at-served (array ds) n = item_at-served ds n (index_of n)
  member_at-served (object ms) n = tt

  then_at-served : (a : Answer (Option Data)) (next : Data → Answer (Option Data)) → IsServed a → ((d : Data) → IsServed (next d))
      → IsServed (then_at a next)
  then_at-served (gives (Some d)) next h k = k d
  then_at-served (gives None) next h k = tt
  then_at-served (fails r) next h k = h

  value_at-served : (d : Data) (ns : List Text) → IsServed (value_at d ns)
  value_at-served d [] = tt
  value_at-served d (n ∷ ns) =
      then_at-served (member_at d n) (λ e. value_at e ns) (member_at-served d n) (λ e. value_at-served e ns)

  found_by-served : (r : Resolution) (d : Data) → IsServed (found_by r d)
  found_by-served (in_block_value held ns) d = map-served found_within (value_at held ns) (value_at-served held ns)
  found_by-served (along ns) d = map-served (found_along ns) (value_at d ns) (value_at-served d ns)
  found_by-served (under_prefix base n) d = tt

  as_read-served : (changed : Option Data) (a : Answer Found) → IsServed a → IsServed (as_read changed a)
  as_read-served None a h = h
  as_read-served (Some d) a h = map-served without_path a h

  -- ---- parameters

  -- there are so many values
  abbrev pub HasValues : ℕ → List PathAndData → Type 0
  HasValues zero vs = Unit {0}
  HasValues (suc i) [] = ⊥
  HasValues (suc i) (v ∷ vs) = HasValues i vs

  first-there : (vs : List PathAndData) → HasValues 1 vs → slice_get vs 0 ≡ None → ⊥
  first-there [] has is = has
  first-there (v ∷ vs) has is = cc

  second-there : (vs : List PathAndData) → HasValues 2 vs → slice_get vs 1 ≡ None → ⊥
  second-there [] has is = has
  second-there (v ∷ []) has is = has
  second-there (v ∷ (w ∷ vs)) has is = cc

  two-one : (vs : List PathAndData) → HasValues 2 vs → HasValues 1 vs
  two-one [] has = has
  two-one (v ∷ vs) has = tt

  by_param-served : {A : Type 0} (helper : Text) (i : ℕ) (v : CallView) (f : PathAndData → Answer A) → (param_at i v ≡ None → ⊥)
      → ((x : PathAndData) → IsServed (f x)) → IsServed (by_param helper i v f)
  by_param-served helper i v f there h =
      with-served (param_at i v) f (fails_for (param_not_found_for_index helper i)) h (λ none. absurd (there none))

module _ (p : Parts) where
  abbrev Served : {A : Type 0} → Answer A → Type 0
  Served a = IsServed p a

  by_value-served : {A : Type 0} (helper : Text) (i : ℕ) (v : CallView) (f : Data → Answer A) → (param_at i v ≡ None → ⊥)
      → ((d : Data) → Served (f d)) → Served (by_value p.strict helper i v f)
  by_value-served helper i v f there h =
      by_param-served p helper i v _ there (λ x.
      strict-served p p.strict (is_missing x.found) (fails_for (param_not_found_for_index helper i)) (f (data_in x.found))
      (λ is. for_parameter is) (h (data_in x.found)))

  two_values-served : (helper : Text) (v : CallView) → HasValues p 2 v.params → Served (two_values p.strict helper v)
  two_values-served helper v has =
      by_value-served helper 0 v _ (first-there p v.params (two-one p v.params has)) (λ x.
      by_value-served helper 1 v (λ y. gives (x, y)) (second-there p v.params has) (λ y. tt))

  -- ---- built-in helpers

  inverse-served : (h : HelperView) (x : PathAndData) → Served (inverse_or_refusal p.strict h x)
  inverse-served h x =
      strict-served p p.strict (lacks h.inverse) (fails_for (missing_variable x.relative_path)) (gives the_inverse)
      (λ is. for_variable is) tt

  walk-served : (h : HelperView) (x : PathAndData) (d : Data) → Served (walk_or_inverse p.strict h x d)
  walk-served h x null = inverse-served h x
  walk-served h x (boolean b) = inverse-served h x
  walk-served h x (number n) = inverse-served h x
  walk-served h x (string s) = inverse-served h x
  walk-served h x (array ds) = tt
  walk-served h x (object ms) = tt

  if-served : {A : Type 0} (b : Bool) (x y : Answer A) → Served x → Served y → Served (if b then x else y)
  if-served true x y h k = h
  if-served false x y h k = k

  null-served : Served (null_or_refusal p.strict)
  null-served = by p.strict refl
    where
      by : (b : Bool) → p.strict ≡ b → Served (null_or_refusal b)
      by true is = for_variable is
      by false is = tt

  no_x-served : (strict : Bool) → p.strict ≡ strict → (x : PathAndData)
      → Served (if strict && is_missing x.found then no_x else gives (size (data_in x.found)))
  no_x-served strict same x =
      strict-served p strict (is_missing x.found) no_x (gives (size (data_in x.found)))
      (λ is. for_named_parameter (subst (λ (b : Bool). b ≡ true) (sym same) is)) tt

  of_two-served : (helper : Text) (h : HelperView) (test : Data → Data → Bool) → HasValues p 2 h.call.params
      → Served (of_two p.strict helper h test)
  of_two-served helper h test has =
      map-served p (λ d. the_boolean (test d.0 d.1)) (two_values p.strict helper h.call) (two_values-served helper h.call has)

  pub built_in-served : (kind : BuiltInKind) (h : HelperView) → HasValues p (needed_params kind) h.call.params
      → Served (built_in_choice p.strict kind h)
  built_in-served kind_if h has =
      map-served p body_if (condition h.call)
      (by_param-served p (codes "if") 0 h.call (λ x. gives (truth (includes_zero h.call) (data_in x.found)))
      (first-there p h.call.params has) (λ x. tt))
  built_in-served kind_unless h has =
      map-served p (λ b. body_if (not b)) (condition h.call)
      (by_param-served p (codes "if") 0 h.call (λ x. gives (truth (includes_zero h.call) (data_in x.found)))
      (first-there p h.call.params has) (λ x. tt))
  built_in-served kind_each h has =
      by_param-served p (codes "each") 0 h.call (each_choice p.strict h) (first-there p h.call.params has) (λ x.
      if-served (lacks h.body) (gives nothing) (walk_or_inverse p.strict h x (data_in x.found)) tt (walk-served h x (data_in x.found)))
  built_in-served kind_with h has =
      by_param-served p (codes "with") 0 h.call (with_choice p.strict h) (first-there p h.call.params has) (λ x.
      if-served (truth false (data_in x.found)) (gives (body_in_block (base_of x.found))) (inverse_or_refusal p.strict h x) tt
      (inverse-served h x))
  built_in-served kind_lookup h has =
      by_param-served p (codes "lookup") 0 h.call _ (first-there p h.call.params (two-one p h.call.params has)) (λ x.
      by_param-served p (codes "lookup") 1 h.call _ (second-there p h.call.params has) (λ key.
      with-served p (looked_up (data_in x.found) (data_in key.found)) (λ d. gives (the_value d)) (null_or_refusal p.strict) (λ d. tt)
      (λ none. null-served)))
  built_in-served kind_raw h has = tt
  built_in-served kind_log h has =
      map-served p (λ line. the_line line.0 line.1) (log_line h.call)
      (with-served p (parse_level (level_text h.call)) (λ level. gives (level, line_text true h.call.params))
      (fails_for (invalid_logging_level (level_text h.call))) (λ level. tt) (λ none. for_level))
  built_in-served kind_eq h has = of_two-served (codes "eq") h equals has
  built_in-served kind_ne h has = of_two-served (codes "ne") h differ has
  built_in-served kind_gt h has = of_two-served (codes "gt") h greater has
  built_in-served kind_gte h has = of_two-served (codes "gte") h greater_or_equal has
  built_in-served kind_lt h has = of_two-served (codes "lt") h less has
  built_in-served kind_lte h has = of_two-served (codes "lte") h less_or_equal has
  built_in-served kind_and h has = tt
  built_in-served kind_or h has = tt
  built_in-served kind_not h has =
      map-served p (λ b. the_boolean b) (negation p.strict h.call)
      (by_value-served (codes "not") 0 h.call (λ x. gives (not (truth false x))) (first-there p h.call.params has) (λ x. tt))
  built_in-served kind_len h has =
      map-served p (λ n. the_value (number (unsigned n))) (len p.strict h.call)
      (with-served p (param_at 0 h.call) _ no_x (λ x. no_x-served p.strict refl x)
      (λ none. absurd (first-there p h.call.params has none)))

-- ---- values of paths

pub path_value-served : (p : Setting) (s : State) (r : Reference) → IsServed p.parts (path_value p s r)
path_value-served p s (relative segments text) =
    as_read-served p.parts s.changed (resolve s.recursive s.blocks (relative segments text) (data_at p s))
    (found_by-served p.parts (resolution_of s.recursive s.blocks segments) (data_at p s))
path_value-served p s (variable level n text) =
    as_read-served p.parts s.changed (resolve s.recursive s.blocks (variable level n text) (data_at p s)) tt
