-- The answers to questions, computed: each question has one.
use Rattle.std.proofs.Common.{◌≡◌, Bool, true, false, ◌&&◌, List, Option, None, Some, refl, sym, ◌∙◌}
use Rattle.handlebars_base.specs.Answers.{Answer, gives, fails}
use Rattle.handlebars_base.specs.Bytes.{Text}
use Rattle.handlebars_base.specs.Path.{Reference}
use Rattle.handlebars_base.specs.PathAndData.{PathAndData}
use Rattle.handlebars_base.specs.PathReading.{path_of}
use Rattle.handlebars_base.proofs.PathShapes.{path_known, path_is}
use Rattle.std.proofs.lemmas.Option.{none-some}
use Rattle.handlebars_base.specs.Scoped.{Found}
use Rattle.handlebars_template.specs.Tree.{Element, raw_string, html_expression, escaped_expression, helper_block, decorator_expression, decorator_block, partial_expression, partial_block, comment, Call, call, call_name, is_value, args, args_params, args_hash, Param, name, path, literal, subexpression, Params, no_params, param, Hash, no_hash, hash_pair}
use Rattle.handlebars_helpers.specs.CallView.{CallView, HelperView}
use Rattle.handlebars_helpers.specs.Callee.{Callee, built, Target, calls_registered, calls_local}
use Rattle.handlebars_helpers.specs.Callee as callee
use Rattle.handlebars_helpers.specs.Decoration.{DecoratorKind, kind_inline, kind_user, DecoratorView}
use Rattle.handlebars_helpers.specs.Escaping.{Escaping, for_html, for_plain, by_user, UserEscape, HasEscaped, no_user_escape}
use Rattle.handlebars_helpers.specs.UserDecorator.{DecoratorQuestion, UserDecorator, no_user_decorator}
use Rattle.handlebars_helpers.specs.UserHelper.{HelperQuestion, Step, Offer, not_offered, offers_missing, offers, UserHelper, no_user_helper}
use Rattle.handlebars_semantics.specs.Asks.{Asks, only, ◌>>=◌, goes_on, first_fails}
use Rattle.handlebars_semantics.specs.Sections.{without_helper, ReadsAsPath, reads, reads_not, HasSectionPath, HasSectionIf}
use Rattle.handlebars_semantics.specs.State.{Parts, Setting, State, helper_for, local_call}
use Rattle.handlebars_semantics.specs.Questions.{Question, value_of, view_of, helper_of, called_as, hook_for, choice_of, escape_of, decorator_of, actions_of, HasCalled, steps_or_offer, HasRegisteredChoice, HasChoice, decorator_question, HasActions, IsAnswered}
use Rattle.handlebars_semantics.specs.Values.{helper_question, HasSteps, HasOffer, offer_or_text, HasRegisteredValue, HasHelpedValue, is_written, is_viewed, path_value, HasValue, HasInnerValue, HasName, HaveValues, HashHasValues}

abbrev pub HasAnswer : {A : Type 0} → Asks A → Type 0
HasAnswer {A = A} m = (a : Answer A) × m a

abbrev pub known : {A : Type 0} (a : Answer A) → HasAnswer (only a)
known a = (a, refl)

abbrev answered_as : {A B : Type 0} (m : Asks A) (f : A → Asks B) (a : Answer A) → m a → ((x : A) → HasAnswer (f x))
    → HasAnswer (m >>= f)
answered_as m f (gives x) h next = ((next x).0, goes_on h (next x).1)
answered_as m f (fails r) h next = (fails r, first_fails h)

abbrev answered_then : {A B : Type 0} (m : Asks A) (f : A → Asks B) → HasAnswer m → ((x : A) → HasAnswer (f x))
    → HasAnswer (m >>= f)
answered_then m f h next = answered_as m f h.0 h.1 next

abbrev written : (q : Param) (m : Asks Found) → HasAnswer m → HasAnswer (is_written q m)
written q m h = answered_then m _ h (λ v. known _)

abbrev viewed : (m : Asks Text) (n : Asks (List PathAndData)) (o : Asks (List (Text × PathAndData))) → HasAnswer m
    → HasAnswer n → HasAnswer o → HasAnswer (is_viewed m n o)
viewed m n o x y z =
    answered_then m _ x (λ called. answered_then n _ y (λ vs. answered_then o _ z (λ ws. known _)))

-- the answers of helpers, decorators and the user-defined escape function, computed
pub record KnowsUserParts (user : Text → UserHelper) (decorator : Text → UserDecorator) (escape : UserEscape) : Type 0 where
  pub steps : (called : Text) (q : HelperQuestion) → HasAnswer ((user called).has_steps q)
  pub offer : (called : Text) (q : HelperQuestion) → HasAnswer ((user called).has_offer q)
  pub actions : (called : Text) (q : DecoratorQuestion) → HasAnswer (decorator called q)
  pub escaped : (t : Text) → HasAnswer (escape t)

abbrev pub Knows : Parts → Type 0
Knows parts = KnowsUserParts parts.user parts.user_decorator parts.user_escape

abbrev pub no_user_parts : KnowsUserParts no_user_helper no_user_decorator no_user_escape
no_user_parts = record {
  steps = λ called q. known _;
  offer = λ called q. known _;
  actions = λ called q. known _;
  escaped = λ t. known _;
}

abbrev offer_or_text_in : (p : Setting) (user : Knows p.parts) (s : State) (called : Text) (h : HelperView)
    (offer : Offer) → HasAnswer (offer_or_text p s called h offer)
offer_or_text_in p user s called h not_offered =
    answered_then (HasSteps p s called h) _ (user.steps called (helper_question p s h)) (λ steps. known _)
offer_or_text_in p user s called h offers_missing = known _
offer_or_text_in p user s called h (offers d) = known _

abbrev registered_in : (p : Setting) (user : Knows p.parts) (s : State) (k : Callee) (h : HelperView)
    → HasAnswer (HasRegisteredValue p s k h)
registered_in p user s (built kind) h = known _
registered_in p user s (callee.user called) h =
    answered_then (HasOffer p s called h) _ (user.offer called (helper_question p s h)) (offer_or_text_in p user s called h)

abbrev helped_in : (p : Setting) (user : Knows p.parts) (s : State) (target : Option Target) (h : HelperView)
    → HasAnswer (HasHelpedValue p s target h)
helped_in p user s None h = known _
helped_in p user s (Some (calls_registered k)) h = registered_in p user s k h
helped_in p user s (Some (calls_local hidden)) h =
    answered_then (only (local_call p.parts (s.local hidden) hidden h)) _ (known _) (λ c. registered_in p user s c.0 c.1)

abbrev steps_or_offer_in : (p : Setting) (user : Knows p.parts) (s : State) (called : Text) (h : HelperView)
    (steps : Option (List Step)) → HasAnswer (steps_or_offer p s called h steps)
steps_or_offer_in p user s called h None =
    answered_then (HasOffer p s called h) _ (user.offer called (helper_question p s h)) (λ offer. known _)
steps_or_offer_in p user s called h (Some steps) = known _

abbrev registered_choice_in : (p : Setting) (user : Knows p.parts) (s : State) (k : Callee) (h : HelperView)
    → HasAnswer (HasRegisteredChoice p s k h)
registered_choice_in p user s (built kind) h = known _
registered_choice_in p user s (callee.user called) h =
    answered_then (HasSteps p s called h) _ (user.steps called (helper_question p s h)) (steps_or_offer_in p user s called h)

abbrev choice_in : (p : Setting) (user : Knows p.parts) (s : State) (target : Target) (h : HelperView)
    → HasAnswer (HasChoice p s target h)
choice_in p user s (calls_registered k) h = registered_choice_in p user s k h
choice_in p user s (calls_local hidden) h =
    answered_then (only (local_call p.parts (s.local hidden) hidden h)) _ (known _)
    (λ c. registered_choice_in p user s c.0 c.1)

abbrev actions_in : (p : Setting) (user : Knows p.parts) (s : State) (kind : DecoratorKind) (v : DecoratorView)
    → HasAnswer (HasActions p s kind v)
actions_in p user s kind_inline v = known _
actions_in p user s (kind_user called) v = user.actions called (decorator_question p s v)

abbrev escaped_in : (p : Setting) (user : Knows p.parts) (escape : Escaping) (t : Text)
    → HasAnswer (HasEscaped escape p.parts.user_escape t)
escaped_in p user for_html t = known _
escaped_in p user for_plain t = known _
escaped_in p user by_user t = user.escaped t

abbrev mutual
  pub value_is_known : (p : Setting) (user : Knows p.parts) (s : State) (q : Param) → HasAnswer (HasValue p s q)
  value_is_known p user s (name n) = known _
  value_is_known p user s (path r) = known _
  value_is_known p user s (literal d) = known _
  value_is_known p user s (subexpression e) = inner_in p user s e

  inner_in : (p : Setting) (user : Knows p.parts) (s : State) (e : Element) → HasAnswer (HasInnerValue p s e)
  inner_in p user s (raw_string t) = known _
  inner_in p user s (html_expression c) = known _
  inner_in p user s (escaped_expression (call n (args ps hs) b t marks)) =
      answered_then (is_viewed (HasName p s n) (HaveValues p s ps) (HashHasValues p s hs)) _
      (viewed (HasName p s n) (HaveValues p s ps) (HashHasValues p s hs) (name_in p user s n) (values_in p user s ps)
      (hash_in p user s hs)) (λ v. helped_in p user s _ _)
  inner_in p user s (helper_block c) = known _
  inner_in p user s (decorator_expression t) = known _
  inner_in p user s (decorator_block t) = known _
  inner_in p user s (partial_expression t) = known _
  inner_in p user s (partial_block t) = known _
  inner_in p user s (comment t) = known _

  name_in : (p : Setting) (user : Knows p.parts) (s : State) (q : Param) → HasAnswer (HasName p s q)
  name_in p user s (name n) = known _
  name_in p user s (path r) = known _
  name_in p user s (literal d) = known _
  name_in p user s (subexpression e) = answered_then (HasInnerValue p s e) _ (inner_in p user s e) (λ v. known _)

  values_in : (p : Setting) (user : Knows p.parts) (s : State) (qs : Params) → HasAnswer (HaveValues p s qs)
  values_in p user s no_params = known _
  values_in p user s (param q qs) =
      answered_then (is_written q (HasValue p s q)) _ (written q (HasValue p s q) (value_is_known p user s q))
      (λ v. answered_then (HaveValues p s qs) _ (values_in p user s qs) (λ vs. known _))

  hash_in : (p : Setting) (user : Knows p.parts) (s : State) (hs : Hash) → HasAnswer (HashHasValues p s hs)
  hash_in p user s no_hash = known _
  hash_in p user s (hash_pair k q hs) =
      answered_then (is_written q (HasValue p s q)) _ (written q (HasValue p s q) (value_is_known p user s q))
      (λ v. answered_then (HashHasValues p s hs) _ (hash_in p user s hs) (λ vs. known _))

-- ---- sections

-- a name that is read as a path, or that is none
abbrev reads_from : (n : Text) (v : CallView) (o : Option Reference) → path_of n ≡ o → HasAnswer (ReadsAsPath n v)
reads_from n v (Some r) is = (gives r, reads (path_is n r is))
reads_from n v None is = (without_helper v, reads_not (λ r h. none-some r (sym is ∙ path_known n r h)))

abbrev section_path_in : (q : Param) (v : CallView) → HasAnswer (HasSectionPath q v)
section_path_in (name n) v = reads_from n v (path_of n) refl
section_path_in (path r) v = known _
section_path_in (literal d) v = known _
section_path_in (subexpression e) v = known _

abbrev section_in : (p : Setting) (s : State) (b : Bool) (q : Param) (v : CallView) → HasAnswer (HasSectionIf b p s q v)
section_in p s true q v = answered_then (HasSectionPath q v) _ (section_path_in q v)
    (λ r. answered_then (only (path_value p s r)) _ (known _) (λ found. known _))
section_in p s false q v = known _

abbrev called_in : (p : Setting) (s : State) (block : Bool) (c : Call) (v : CallView) (target : Option Target)
    → HasAnswer (HasCalled p s block c v target)
called_in p s block c v None = section_in p s (p.parts.sections && (block && is_value c)) (call_name c) v
called_in p s block c v (Some k) = known _

abbrev pub answer_in : (p : Setting) (user : Knows p.parts) (s : State) (q : Question) → HasAnswer (IsAnswered p s q)
answer_in p user s (value_of q) = value_is_known p user s q
answer_in p user s (view_of n xs) =
    viewed (HasName p s n) (HaveValues p s (args_params xs)) (HashHasValues p s (args_hash xs)) (name_in p user s n)
    (values_in p user s (args_params xs)) (hash_in p user s (args_hash xs))
answer_in p user s (helper_of n) = known _
answer_in p user s (called_as block c v) = called_in p s block c v (helper_for p.parts s block v.name)
answer_in p user s (hook_for q) = known _
answer_in p user s (choice_of target h) = choice_in p user s target h
answer_in p user s (escape_of t) = escaped_in p user p.parts.escape t
answer_in p user s (decorator_of n) = known _
answer_in p user s (actions_of kind v) = actions_in p user s kind v
