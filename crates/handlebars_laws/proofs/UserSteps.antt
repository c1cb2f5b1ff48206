-- Built-in helpers choose no steps: the steps that are chosen are those of a user-defined helper.
use Rattle.std.proofs.Common.{◌≡◌, ℕ, Bool, true, false, not, ◌&&◌, if◌then◌else◌, List, [], ◌∷◌, Option, None, Some, refl, sym, ap, subst}
use Rattle.serde_json.specs.Data.{Data, null, boolean, number, string, array, object}
use Rattle.handlebars_base.specs.Answers.{Answer, gives, fails, answer_map}
use Rattle.handlebars_base.specs.Bytes.{Text}
use Rattle.handlebars_base.specs.Optional.{with_or}
use Rattle.handlebars_base.specs.PathAndData.{PathAndData}
use Rattle.handlebars_base.specs.Reasons.{Refusal}
use Rattle.handlebars_base.specs.Scoped.{data_in, path_in}
use Rattle.handlebars_base.specs.Values.{truth}
use Rattle.handlebars_helpers.specs.Boolean.{negation, len}
use Rattle.handlebars_helpers.specs.CallView.{CallView, HelperView, param_at}
use Rattle.handlebars_helpers.specs.Callee.{Callee, built, user, Target, calls_registered, calls_local}
use Rattle.handlebars_helpers.specs.Choice.{BuiltInKind, kind_if, kind_unless, kind_each, kind_with, kind_lookup, kind_raw, kind_log, kind_eq, kind_ne, kind_gt, kind_gte, kind_lt, kind_lte, kind_and, kind_or, kind_not, kind_len, Choice, the_body, the_inverse, body_in_block, body_in_iterations, the_value, the_boolean, the_line, the_steps, nothing, body_if, condition, lacks, inverse_or_refusal, iterations_or_inverse, walk_or_inverse, each_choice, with_choice, looked_up, null_or_refusal, of_two, built_in_choice}
use Rattle.handlebars_helpers.specs.LogLine.{log_line}
use Rattle.handlebars_helpers.specs.UserHelper.{HelperQuestion, Step, Offer, not_offered, offers_missing, offers}
use Rattle.handlebars_helpers.specs.Params.{by_param, two_values}
use Rattle.handlebars_helpers.specs.Iterations.{Iteration, iterations_of}
use Rattle.handlebars_semantics.specs.Asks.{goes_on}
use Rattle.handlebars_semantics.specs.Questions.{offer_choice, steps_or_offer, HasRegisteredChoice, HasChoice}
use Rattle.handlebars_semantics.specs.State.{Setting, State}
use Rattle.handlebars_semantics.specs.Values.{helper_question}

-- ---- choices that are no steps

abbrev steps_in : Choice → Option (List Step)
steps_in the_body = None
steps_in the_inverse = None
steps_in (body_in_block base) = None
steps_in (body_in_iterations path ts) = None
steps_in (the_value d) = None
steps_in (the_boolean b) = None
steps_in (the_line level text) = None
steps_in (the_steps steps) = Some steps
steps_in nothing = None

abbrev HasNoSteps : Answer Choice → Type 0
HasNoSteps (gives choice) = steps_in choice ≡ None
HasNoSteps (fails r) = Unit {0}

-- ---- what built-in helpers choose

by_option : {A : Type 0} (o : Option A) (f : A → Answer Choice) (r : Refusal) → ((x : A) → HasNoSteps (f x))
    → HasNoSteps (with_or o f (fails r))
by_option None f r h = tt
by_option (Some x) f r h = h x

by_map : {A : Type 0} (g : A → Choice) (a : Answer A) → ((x : A) → steps_in (g x) ≡ None) → HasNoSteps (answer_map g a)
by_map g (gives x) h = h x
by_map g (fails r) h = tt

by_param-no_steps : (helper : Text) (i : ℕ) (v : CallView) (f : PathAndData → Answer Choice)
    → ((x : PathAndData) → HasNoSteps (f x)) → HasNoSteps (by_param helper i v f)
by_param-no_steps helper i v f h = by_option (param_at i v) f _ h

body_if-no_steps : (b : Bool) → steps_in (body_if b) ≡ None
body_if-no_steps true = refl
body_if-no_steps false = refl

by_test : (b : Bool) (x y : Answer Choice) → HasNoSteps x → HasNoSteps y → HasNoSteps (if b then x else y)
by_test true x y h k = h
by_test false x y h k = k

inverse-no_steps : (strict : Bool) (h : HelperView) (x : PathAndData) → HasNoSteps (inverse_or_refusal strict h x)
inverse-no_steps strict h x = by_test (strict && lacks h.inverse) _ _ tt refl

iterations-no_steps : (path : Option (List Text)) (ts : List Iteration) → steps_in (iterations_or_inverse path ts) ≡ None
iterations-no_steps path [] = refl
iterations-no_steps path (t ∷ ts) = refl

walk-no_steps : (strict : Bool) (h : HelperView) (x : PathAndData) (d : Data) → HasNoSteps (walk_or_inverse strict h x d)
walk-no_steps strict h x null = inverse-no_steps strict h x
walk-no_steps strict h x (boolean b) = inverse-no_steps strict h x
walk-no_steps strict h x (number n) = inverse-no_steps strict h x
walk-no_steps strict h x (string s) = inverse-no_steps strict h x
walk-no_steps strict h x (array ds) = iterations-no_steps (path_in x.found) (iterations_of (array ds))
walk-no_steps strict h x (object ms) = iterations-no_steps (path_in x.found) (iterations_of (object ms))

null-no_steps : (strict : Bool) → HasNoSteps (null_or_refusal strict)
null-no_steps true = tt
null-no_steps false = refl

looked_up-no_steps : (strict : Bool) (o : Option Data) → HasNoSteps (with_or o (λ x. gives (the_value x)) (null_or_refusal strict))
looked_up-no_steps strict None = null-no_steps strict
looked_up-no_steps strict (Some d) = refl

of_two-no_steps : (strict : Bool) (helper : Text) (h : HelperView) (test : Data → Data → Bool)
    → HasNoSteps (of_two strict helper h test)
of_two-no_steps strict helper h test = by_map _ (two_values strict helper h.call) (λ d. refl)

built_in-no_steps : (strict : Bool) (kind : BuiltInKind) (h : HelperView) → HasNoSteps (built_in_choice strict kind h)
built_in-no_steps strict kind_if h = by_map body_if (condition h.call) body_if-no_steps
built_in-no_steps strict kind_unless h = by_map _ (condition h.call) (λ b. body_if-no_steps (not b))
built_in-no_steps strict kind_each h = by_param-no_steps _ 0 h.call (each_choice strict h)
    (λ x. by_test (lacks h.body) _ _ refl (walk-no_steps strict h x (data_in x.found)))
built_in-no_steps strict kind_with h = by_param-no_steps _ 0 h.call (with_choice strict h)
    (λ x. by_test (truth false (data_in x.found)) _ _ refl (inverse-no_steps strict h x))
built_in-no_steps strict kind_lookup h = by_param-no_steps _ 0 h.call _ (λ x. by_param-no_steps _ 1 h.call _
    (λ key. looked_up-no_steps strict (looked_up (data_in x.found) (data_in key.found))))
built_in-no_steps strict kind_raw h = refl
built_in-no_steps strict kind_log h = by_map _ (log_line h.call) (λ line. refl)
built_in-no_steps strict kind_eq h = of_two-no_steps strict _ h _
built_in-no_steps strict kind_ne h = of_two-no_steps strict _ h _
built_in-no_steps strict kind_gt h = of_two-no_steps strict _ h _
built_in-no_steps strict kind_gte h = of_two-no_steps strict _ h _
built_in-no_steps strict kind_lt h = of_two-no_steps strict _ h _
built_in-no_steps strict kind_lte h = of_two-no_steps strict _ h _
built_in-no_steps strict kind_and h = refl
built_in-no_steps strict kind_or h = refl
built_in-no_steps strict kind_not h = by_map _ (negation strict h.call) (λ b. refl)
built_in-no_steps strict kind_len h = by_map _ (len strict h.call) (λ n. refl)

offer-no_steps : (strict : Bool) (offer : Offer) → HasNoSteps (offer_choice strict offer)
offer-no_steps strict not_offered = refl
offer-no_steps strict offers_missing = null-no_steps strict
offer-no_steps strict (offers d) = refl

-- ---- steps that are chosen

Some≢None : {A : Type 0} {x : A} → Some x ≡ None → ⊥
Some≢None e = cc

never-steps : {Z : Type 0} (a : Answer Choice) (steps : List Step) → HasNoSteps a → gives (the_steps steps) ≡ a → Z
never-steps a steps h is = absurd (Some≢None (subst HasNoSteps (sym is) h))

steps_or : List Step → Answer Choice → List Step
steps_or d (fails r) = d
steps_or d (gives the_body) = d
steps_or d (gives the_inverse) = d
steps_or d (gives (body_in_block base)) = d
steps_or d (gives (body_in_iterations path ts)) = d
steps_or d (gives (the_value x)) = d
steps_or d (gives (the_boolean b)) = d
steps_or d (gives (the_line level text)) = d
steps_or d (gives (the_steps steps)) = steps
steps_or d (gives nothing) = d

the_steps-injective : (xs ys : List Step) → gives (the_steps xs) ≡ gives (the_steps ys) → xs ≡ ys
unfolding steps_or
the_steps-injective xs ys is = ap (steps_or xs) is

-- A user-defined helper answers these steps to some question.
pub record IsAnsweredSo (p : Setting) (steps : List Step) : Type 0 where
  pub called : Text
  pub question : HelperQuestion
  pub answers : (p.parts.user called).has_steps question (gives (Some steps))

module _ (p : Setting) (s : State) (steps : List Step) where
  steps_or_offer-user : (called : Text) (h : HelperView) (o : Option (List Step))
      → (p.parts.user called).has_steps (helper_question p s h) (gives o)
      → steps_or_offer p s called h o (gives (the_steps steps)) → IsAnsweredSo p steps
  steps_or_offer-user called h None has (goes_on {x = offer} is next) =
      never-steps (offer_choice p.parts.strict offer) steps (offer-no_steps p.parts.strict offer) next
  steps_or_offer-user called h (Some xs) has is = record {
    called = called;
    question = helper_question p s h;
    answers = subst (λ (z : List Step). (p.parts.user called).has_steps (helper_question p s h) (gives (Some z)))
        (sym (the_steps-injective steps xs is)) has;
  }

  HasRegisteredChoice-user : (k : Callee) (h : HelperView) → HasRegisteredChoice p s k h (gives (the_steps steps))
      → IsAnsweredSo p steps
  HasRegisteredChoice-user (built kind) h is =
      never-steps (built_in_choice p.parts.strict kind h) steps (built_in-no_steps p.parts.strict kind h) is
  HasRegisteredChoice-user (user called) h (goes_on {x = o} has next) = steps_or_offer-user called h o has next

  pub HasChoice-user : (k : Target) (h : HelperView) → HasChoice p s k h (gives (the_steps steps)) → IsAnsweredSo p steps
  HasChoice-user (calls_registered k) h is = HasRegisteredChoice-user k h is
  HasChoice-user (calls_local called) h (goes_on {x = c} is next) = HasRegisteredChoice-user c.0 c.1 next
