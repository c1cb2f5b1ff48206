-- What a blind helper chooses for views of its call that are equal up to texts is equal up to texts.
use Rattle.std.proofs.Common.{◌≡◌, ℕ, ◌+◌, ◌==◌, Bool, true, false, not, ◌&&◌, ◌||◌, List, [], ◌∷◌, Option, Some, cond, codes, if◌then◌else◌, unwrap_or, refl, ap, sym, ◌∙◌, subst}
use Rattle.std.specs.Map.{lookup}
use Rattle.std.specs.Str.{bytes_eq}
use Rattle.serde_json.specs.Data.{Data, null, boolean, number, string, array, object, Items, no_items, item, Members, no_members, member}
use Rattle.serde_json.specs.Find.{as_bool}
use Rattle.handlebars_base.specs.Answers.{Answer, gives, fails_for}
use Rattle.handlebars_base.specs.Bytes.{Text}
use Rattle.handlebars_base.specs.PathAndData.{PathAndData}
use Rattle.handlebars_base.specs.Reasons.{missing_variable, param_not_found_for_index}
use Rattle.handlebars_base.specs.RenderRefusals.{plain_refusal}
use Rattle.handlebars_base.specs.Scoped.{Found, walked, value, missing, data_in, path_in}
use Rattle.handlebars_base.specs.Values.{truth}
use Rattle.handlebars_template.specs.Tree.{Binding, Body}
use Rattle.handlebars_scope.specs.Scopes.{base_of}
use Rattle.handlebars_helpers.specs.Boolean.{negation, all_true, some_true}
use Rattle.handlebars_helpers.specs.CallView.{CallView, HelperView, param_at, hash_at}
use Rattle.handlebars_helpers.specs.Choice.{BuiltInKind, kind_if, kind_unless, kind_each, kind_with, kind_lookup, kind_raw, kind_log, kind_eq, kind_ne, kind_gt, kind_gte, kind_lt, kind_lte, kind_and, kind_or, kind_not, kind_len, the_inverse, body_in_block, the_boolean, nothing, body_if, includes_zero, condition, lacks, inverse_or_refusal, iterations_or_inverse, walk_or_inverse, each_choice, with_choice, built_in_choice}
use Rattle.handlebars_helpers.specs.Params.{is_missing, by_param}
use Rattle.handlebars_helpers.specs.Iterations.{Iteration, item_iterations, member_iterations, item_count, member_count, iterations_of}
use Rattle.handlebars_markup.specs.Alike.{AreAlike, AreAlikeItems, AreAlikeMembers}
use Rattle.handlebars_markup.specs.Blind.{is_blind}
use Rattle.handlebars_markup.proofs.Alikeness.{AreAlikeOptions, AreAlikeLists, AreAlikeAnswers, AreAlikeFound, AreAlikeBases, AreAlikeParams, AreAlikeHash, AreAlikeViews, AreAlikeIterations, AreAlikeChoices}
use Rattle.handlebars_markup.proofs.Values.{cond-alike, slice_get-alike, with_or-alike, answer_map-alike, truth-alike, data_in-alike}

-- a call's view with what else its helper sees
abbrev pub shown_helper_call : Binding → Body → Body → Bool → CallView → HelperView
shown_helper_call names b i block v = record { call = v; binding = names; body = b; inverse = i; block = block }

-- the branches of tests with one outcome are related
if-same : {A : Type 0} (R : A → A → Type 0) (b c : Bool) (x x' y y' : A) → b ≡ c → R x y → R x' y'
    → R (if b then x else x') (if c then y else y')
if-same R true true x x' y y' is h k = h
if-same R false false x x' y y' is h k = k
if-same R true false x x' y y' is h k = cc
if-same R false true x x' y y' is h k = cc

-- ---- parameters and hash arguments

is_missing-alike : (v w : Found) → AreAlikeFound v w → is_missing v ≡ is_missing w
is_missing-alike (walked d ns) (walked e ms) h = refl
is_missing-alike (value d) (value e) h = refl
is_missing-alike missing missing h = refl
is_missing-alike v w h = absurd h

truth-params : (p q : PathAndData) → AreAlikeParams p q → truth false (data_in p.found) ≡ truth false (data_in q.found)
truth-params p q h = truth-alike false (data_in p.found) (data_in q.found) (data_in-alike p.found q.found h.found)

by_param-alike : {A : Type 0} (R : A → A → Type 0) (helper : Text) (i : ℕ) (v w : CallView) (f g : PathAndData → Answer A)
    → AreAlikeViews v w → ((p q : PathAndData) → AreAlikeParams p q → AreAlikeAnswers R (f p) (g q))
    → AreAlikeAnswers R (by_param helper i v f) (by_param helper i w g)
by_param-alike {A = A} R helper i v w f g h k =
    let refusal : Answer A = fails_for (param_not_found_for_index helper i) in
    with_or-alike AreAlikeParams (AreAlikeAnswers R) (param_at i v) (param_at i w) f g refusal refusal
    (slice_get-alike AreAlikeParams v.params w.params i h.params) k refl

lookup-alike : (key : Text) (xs ys : List (Text × PathAndData)) → AreAlikeLists AreAlikeHash xs ys
    → AreAlikeOptions AreAlikeParams (lookup (bytes_eq key) xs) (lookup (bytes_eq key) ys)
lookup-alike key [] [] h = tt
lookup-alike key (x ∷ xs) (y ∷ ys) h =
    let here = lookup (bytes_eq key) xs in
    let there = lookup (bytes_eq key) ys in
    subst (λ (z : Text). AreAlikeOptions AreAlikeParams (cond (bytes_eq key x.0) (Some x.1) here)
    (cond (bytes_eq key z) (Some y.1) there)) h.0.0
    (cond-alike (AreAlikeOptions AreAlikeParams) (bytes_eq key x.0) (Some x.1) here (Some y.1) there h.0.1
    (lookup-alike key xs ys h.1))
lookup-alike key xs ys h = absurd h

-- ---- `if` and `unless`

as_bool-alike : (d e : Data) → AreAlike d e → as_bool d ≡ as_bool e
as_bool-alike null null h = refl
as_bool-alike (boolean b) (boolean c) h = ap (λ x. Some x) h
as_bool-alike (number n) (number m) h = refl
as_bool-alike (string s) (string t) h = refl
as_bool-alike (array ds) (array es) h = refl
as_bool-alike (object ms) (object ns) h = refl
as_bool-alike d e h = absurd h

includes_zero-alike : (v w : CallView) → AreAlikeViews v w → includes_zero v ≡ includes_zero w
includes_zero-alike v w h =
    let as_flag = λ (p : PathAndData). unwrap_or (as_bool (data_in p.found)) false in
    with_or-alike AreAlikeParams (λ (b c : Bool). b ≡ c) (hash_at (codes "includeZero") v) (hash_at (codes "includeZero") w)
    as_flag as_flag false false (lookup-alike (codes "includeZero") v.hash w.hash h.hash)
    (λ p q k. ap (λ o. unwrap_or o false)
    (as_bool-alike (data_in p.found) (data_in q.found) (data_in-alike p.found q.found k.found))) refl

condition-alike : (v w : CallView) → AreAlikeViews v w → AreAlikeAnswers (λ (b c : Bool). b ≡ c) (condition v) (condition w)
condition-alike v w h =
    by_param-alike (λ (b c : Bool). b ≡ c) (codes "if") 0 v w (λ p. gives (truth (includes_zero v) (data_in p.found)))
    (λ p. gives (truth (includes_zero w) (data_in p.found))) h
    (λ p q k. truth-alike (includes_zero v) (data_in p.found) (data_in q.found) (data_in-alike p.found q.found k.found)
    ∙ ap (λ z. truth z (data_in q.found)) (includes_zero-alike v w h))

body_if-alike : (b c : Bool) → b ≡ c → AreAlikeChoices (body_if b) (body_if c)
body_if-alike true true is = tt
body_if-alike false false is = tt
body_if-alike true false is = cc
body_if-alike false true is = cc

-- ---- iterations

item_count-alike : (ds es : Items) → AreAlikeItems ds es → item_count ds ≡ item_count es
item_count-alike no_items no_items h = refl
item_count-alike (item d ds) (item e es) h = ap (λ n. n + 1) (item_count-alike ds es h.1)
item_count-alike ds es h = absurd h

member_count-alike : (ms ns : Members) → AreAlikeMembers ms ns → member_count ms ≡ member_count ns
member_count-alike no_members no_members h = refl
member_count-alike (member k d ms) (member l e ns) h = ap (λ n. n + 1) (member_count-alike ms ns h.2)
member_count-alike ms ns h = absurd h

item_iterations-alike : (n i : ℕ) (ds es : Items) → AreAlikeItems ds es
    → AreAlikeLists AreAlikeIterations (item_iterations n i ds) (item_iterations n i es)
item_iterations-alike n i no_items no_items h = tt
item_iterations-alike n i (item d ds) (item e es) h = ((e, refl, h.0), item_iterations-alike n (i + 1) ds es h.1)
item_iterations-alike n i ds es h = absurd h

abbrev keyed_iteration : ℕ → Bool → Data → Text → Iteration
keyed_iteration i last d k = record { index = i; key = Some k; last = last; member = d }

member_iterations-alike : (n i : ℕ) (ms ns : Members) → AreAlikeMembers ms ns
    → AreAlikeLists AreAlikeIterations (member_iterations n i ms) (member_iterations n i ns)
member_iterations-alike n i no_members no_members h = tt
member_iterations-alike n i (member k d ms) (member l e ns) h =
    ((e, ap (keyed_iteration i (i + 1 == n) e) (sym h.0), h.1), member_iterations-alike n (i + 1) ms ns h.2)
member_iterations-alike n i ms ns h = absurd h

array-iterations : (ds es : Items) → AreAlikeItems ds es → AreAlikeLists AreAlikeIterations (iterations_of (array ds)) (iterations_of (array es))
array-iterations ds es h =
    subst (λ (n : ℕ). AreAlikeLists AreAlikeIterations (item_iterations (item_count ds) 0 ds) (item_iterations n 0 es))
    (item_count-alike ds es h) (item_iterations-alike (item_count ds) 0 ds es h)

object-iterations : (ms ns : Members) → AreAlikeMembers ms ns
    → AreAlikeLists AreAlikeIterations (iterations_of (object ms)) (iterations_of (object ns))
object-iterations ms ns h =
    subst (λ (n : ℕ). AreAlikeLists AreAlikeIterations (member_iterations (member_count ms) 0 ms) (member_iterations n 0 ns))
    (member_count-alike ms ns h) (member_iterations-alike (member_count ms) 0 ms ns h)

iterations_or_inverse-alike : (path other : Option (List Text)) (ts us : List Iteration) → path ≡ other
    → AreAlikeLists AreAlikeIterations ts us → AreAlikeChoices (iterations_or_inverse path ts) (iterations_or_inverse other us)
iterations_or_inverse-alike path other [] [] is h = tt
iterations_or_inverse-alike path other (t ∷ ts) (u ∷ us) is h = (is, h)
iterations_or_inverse-alike path other ts us is h = absurd h

path_in-alike : (v w : Found) → AreAlikeFound v w → path_in v ≡ path_in w
path_in-alike (walked d ns) (walked e ms) h = ap (λ z. Some z) h.1
path_in-alike (value d) (value e) h = refl
path_in-alike missing missing h = refl
path_in-alike v w h = absurd h

base_of-alike : (v w : Found) → AreAlikeFound v w → AreAlikeBases (base_of v) (base_of w)
base_of-alike (walked d ns) (walked e ms) h = h.1
base_of-alike (value d) (value e) h = h
base_of-alike missing missing h = tt
base_of-alike v w h = absurd h

-- ---- `and` and `or`

all_true-alike : (ps qs : List PathAndData) → AreAlikeLists AreAlikeParams ps qs → all_true ps ≡ all_true qs
all_true-alike [] [] h = refl
all_true-alike (p ∷ ps) (q ∷ qs) h =
    let one = truth-params p q h.0 in
    let others = all_true-alike ps qs h.1 in
    λ i. one i && others i
all_true-alike ps qs h = absurd h

some_true-alike : (ps qs : List PathAndData) → AreAlikeLists AreAlikeParams ps qs → some_true ps ≡ some_true qs
some_true-alike [] [] h = refl
some_true-alike (p ∷ ps) (q ∷ qs) h =
    let one = truth-params p q h.0 in
    let others = some_true-alike ps qs h.1 in
    λ i. one i || others i
some_true-alike ps qs h = absurd h

module _ (strict : Bool) (names : Binding) (b i : Body) (block : Bool) (v w : CallView) (h : AreAlikeViews v w) where
  abbrev first : HelperView
  first = shown_helper_call names b i block v

  abbrev second : HelperView
  second = shown_helper_call names b i block w

  -- ---- `each` and `with`

  inverse_or_refusal-alike : (p q : PathAndData) → AreAlikeParams p q
      → AreAlikeAnswers AreAlikeChoices (inverse_or_refusal strict first p) (inverse_or_refusal strict second q)
  inverse_or_refusal-alike p q k =
      let c = strict && lacks i in
      if-same (AreAlikeAnswers AreAlikeChoices) c c (fails_for (missing_variable p.relative_path)) (gives the_inverse)
      (fails_for (missing_variable q.relative_path)) (gives the_inverse) refl
      (ap (λ (z : Option Text). plain_refusal (missing_variable z)) k.path) tt

  walk_or_inverse-alike : (p q : PathAndData) (d e : Data) → AreAlikeParams p q → AreAlike d e
      → AreAlikeAnswers AreAlikeChoices (walk_or_inverse strict first p d) (walk_or_inverse strict second q e)
  walk_or_inverse-alike p q null null k g = inverse_or_refusal-alike p q k
  walk_or_inverse-alike p q (boolean c) (boolean c') k g = inverse_or_refusal-alike p q k
  walk_or_inverse-alike p q (number n) (number m) k g = inverse_or_refusal-alike p q k
  walk_or_inverse-alike p q (string s) (string t) k g = inverse_or_refusal-alike p q k
  walk_or_inverse-alike p q (array ds) (array es) k g =
      iterations_or_inverse-alike (path_in p.found) (path_in q.found) (iterations_of (array ds)) (iterations_of (array es))
      (path_in-alike p.found q.found k.found) (array-iterations ds es g)
  walk_or_inverse-alike p q (object ms) (object ns) k g =
      iterations_or_inverse-alike (path_in p.found) (path_in q.found) (iterations_of (object ms)) (iterations_of (object ns))
      (path_in-alike p.found q.found k.found) (object-iterations ms ns g)
  walk_or_inverse-alike p q d e k g = absurd g

  each_choice-alike : (p q : PathAndData) → AreAlikeParams p q
      → AreAlikeAnswers AreAlikeChoices (each_choice strict first p) (each_choice strict second q)
  each_choice-alike p q k =
      if-same (AreAlikeAnswers AreAlikeChoices) (lacks b) (lacks b) (gives nothing)
      (walk_or_inverse strict first p (data_in p.found)) (gives nothing) (walk_or_inverse strict second q (data_in q.found))
      refl tt (walk_or_inverse-alike p q (data_in p.found) (data_in q.found) k (data_in-alike p.found q.found k.found))

  with_choice-alike : (p q : PathAndData) → AreAlikeParams p q
      → AreAlikeAnswers AreAlikeChoices (with_choice strict first p) (with_choice strict second q)
  with_choice-alike p q k =
      if-same (AreAlikeAnswers AreAlikeChoices) (truth false (data_in p.found)) (truth false (data_in q.found))
      (gives (body_in_block (base_of p.found))) (inverse_or_refusal strict first p)
      (gives (body_in_block (base_of q.found))) (inverse_or_refusal strict second q) (truth-params p q k)
      (base_of-alike p.found q.found k.found) (inverse_or_refusal-alike p q k)

  -- ---- `not`

  negation-alike : AreAlikeAnswers (λ (c d : Bool). c ≡ d) (negation strict v) (negation strict w)
  negation-alike =
      let refusal : Answer Bool = fails_for (param_not_found_for_index (codes "not") 0) in
      by_param-alike (λ (c d : Bool). c ≡ d) (codes "not") 0 v w
      (λ p. if strict && is_missing p.found then refusal else gives (not (truth false (data_in p.found))))
      (λ q. if strict && is_missing q.found then refusal else gives (not (truth false (data_in q.found)))) h
      (λ p q k. if-same (AreAlikeAnswers (λ (c d : Bool). c ≡ d)) (strict && is_missing p.found)
      (strict && is_missing q.found) refusal (gives (not (truth false (data_in p.found)))) refusal
      (gives (not (truth false (data_in q.found)))) (ap (λ z. strict && z) (is_missing-alike p.found q.found k.found)) refl
      (ap not (truth-params p q k)))

  -- ---- all that are blind

  pub built_in_choice-alike : (k : BuiltInKind) → is_blind k ≡ true
      → AreAlikeAnswers AreAlikeChoices (built_in_choice strict k first) (built_in_choice strict k second)
  built_in_choice-alike kind_if is = answer_map-alike (λ (c d : Bool). c ≡ d) AreAlikeChoices (condition v) (condition w)
      body_if body_if (condition-alike v w h) body_if-alike
  built_in_choice-alike kind_unless is = answer_map-alike (λ (c d : Bool). c ≡ d) AreAlikeChoices (condition v) (condition w)
      (λ c. body_if (not c)) (λ d. body_if (not d)) (condition-alike v w h)
      (λ c d k. body_if-alike (not c) (not d) (ap not k))
  built_in_choice-alike kind_each is = by_param-alike AreAlikeChoices (codes "each") 0 v w (each_choice strict first)
      (each_choice strict second) h each_choice-alike
  built_in_choice-alike kind_with is = by_param-alike AreAlikeChoices (codes "with") 0 v w (with_choice strict first)
      (with_choice strict second) h with_choice-alike
  built_in_choice-alike kind_raw is = tt
  built_in_choice-alike kind_and is = all_true-alike v.params w.params h.params
  built_in_choice-alike kind_or is = some_true-alike v.params w.params h.params
  built_in_choice-alike kind_not is = answer_map-alike (λ (c d : Bool). c ≡ d) AreAlikeChoices (negation strict v)
      (negation strict w) (λ c. the_boolean c) (λ d. the_boolean d) negation-alike (λ c d k. k)
  built_in_choice-alike kind_lookup is = cc
  built_in_choice-alike kind_log is = cc
  built_in_choice-alike kind_eq is = cc
  built_in_choice-alike kind_ne is = cc
  built_in_choice-alike kind_gt is = cc
  built_in_choice-alike kind_gte is = cc
  built_in_choice-alike kind_lt is = cc
  built_in_choice-alike kind_lte is = cc
  built_in_choice-alike kind_len is = cc
