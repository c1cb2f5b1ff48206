-- One pass through all questions, at two settings that differ in the registered templates, in the limit and in whether there
-- are sections, and in two states that differ in the current name. The questions are related if what user-defined parts are
-- asked is, and what is asked of sections, by any relation that is preserved when one answer is asked for after another.
use Rattle.std.proofs.Common.{ℕ, Bool, true, false, ◌&&◌, List, Option, None, Some}
use Rattle.handlebars_base.specs.Answers.{Answer}
use Rattle.handlebars_base.specs.Bytes.{Text}
use Rattle.handlebars_base.specs.PathAndData.{PathAndData}
use Rattle.handlebars_base.specs.Scoped.{Found}
use Rattle.handlebars_helpers.specs.CallView.{CallView, HelperView}
use Rattle.handlebars_helpers.specs.Callee.{Callee, built, user, Target, calls_registered, calls_local}
use Rattle.handlebars_helpers.specs.Decoration.{DecoratorKind, kind_inline, kind_user, DecoratorView}
use Rattle.handlebars_helpers.specs.Escaping.{Escaping, HasEscaped, for_html, for_plain, by_user}
use Rattle.handlebars_helpers.specs.UserHelper.{HelperQuestion, Step, Offer, not_offered, offers_missing, offers}
use Rattle.handlebars_helpers.specs.UserDecorator.{DecoratorQuestion}
use Rattle.handlebars_template.specs.Tree.{Tree, Element, escaped_expression, Call, call, call_name, is_value, Args, args, args_params, args_hash, Param, name, path, literal, subexpression, Params, no_params, param, Hash, no_hash, hash_pair}
use Rattle.handlebars_semantics.specs.Asks.{Asks, only, ◌>>=◌}
use Rattle.handlebars_semantics.specs.Sections.{ReadsAsPath, HasSectionPath, HasSectionIf}
use Rattle.handlebars_semantics.specs.State.{Parts, Setting, State, helper_for}
use Rattle.handlebars_semantics.specs.Questions.{Question, value_of, view_of, helper_of, called_as, hook_for, choice_of, escape_of, decorator_of, actions_of, HasCalled, steps_or_offer, HasRegisteredChoice, HasChoice, HasActions, IsAnswered}
use Rattle.handlebars_semantics.specs.Values.{offer_or_text, HasRegisteredValue, HasHelpedValue, is_written, is_viewed, HasValue, HasInnerValue, HasView, HasName, HaveValues, HashHasValues}

pub record Relation : Type 1 where
  pub Relates : {A : Type 0} → Asks A → Asks A → Type 0
  pub only_related : {A : Type 0} (x : Answer A) → Relates (only x) (only x)
  pub then_related : {A B : Type 0} (m n : Asks A) (f g : A → Asks B) → Relates m n → ((x : A) → Relates (f x) (g x))
      → Relates (m >>= f) (n >>= g)
  pub path_related : (n : Text) (v : CallView) → Relates (ReadsAsPath n v) (ReadsAsPath n v)

-- What user-defined parts are asked is related to itself.
pub record UserRelated (r : Relation) (p : Parts) : Type 0 where
  pub steps : (n : Text) (x : HelperQuestion) → r.Relates ((p.user n).has_steps x) ((p.user n).has_steps x)
  pub offer : (n : Text) (x : HelperQuestion) → r.Relates ((p.user n).has_offer x) ((p.user n).has_offer x)
  pub actions : (n : Text) (x : DecoratorQuestion) → r.Relates (p.user_decorator n x) (p.user_decorator n x)
  pub escape : (t : Text) → r.Relates (p.user_escape t) (p.user_escape t)

-- the setting with other templates and another limit, and with sections or without
abbrev pub other_with : Setting → (Text → Option Tree) → ℕ → Bool → Setting
other_with p template limit sections =
    record p { parts = record p.parts { template = template; limit = limit; sections = sections } }

-- and with sections if it has them
abbrev pub other_setting : Setting → (Text → Option Tree) → ℕ → Setting
other_setting p template limit = other_with p template limit p.parts.sections

module _ (r : Relation) (p : Setting) (user_related : UserRelated r p.parts) (template : Text → Option Tree) (limit : ℕ)
    (sections : Bool) (s : State) (c : Option Text) where
  abbrev p' : Setting
  p' = other_with p template limit sections

  abbrev s' : State
  s' = record s { current = c }

  -- ---- user-defined helpers

  offer_or_text-related : (called : Text) (h : HelperView) (offer : Offer)
      → r.Relates (offer_or_text p s called h offer) (offer_or_text p' s' called h offer)
  offer_or_text-related called h not_offered =
      r.then_related _ _ _ _ (user_related.steps called _) (λ steps. r.only_related _)
  offer_or_text-related called h offers_missing = r.only_related _
  offer_or_text-related called h (offers d) = r.only_related _

  HasRegisteredValue-related : (k : Callee) (h : HelperView)
      → r.Relates (HasRegisteredValue p s k h) (HasRegisteredValue p' s' k h)
  HasRegisteredValue-related (built kind) h = r.only_related _
  HasRegisteredValue-related (user called) h =
      r.then_related _ _ _ _ (user_related.offer called _) (offer_or_text-related called h)

  HasHelpedValue-related : (target : Option Target) (h : HelperView)
      → r.Relates (HasHelpedValue p s target h) (HasHelpedValue p' s' target h)
  HasHelpedValue-related None h = r.only_related _
  HasHelpedValue-related (Some (calls_registered k)) h = HasRegisteredValue-related k h
  HasHelpedValue-related (Some (calls_local called)) h =
      r.then_related _ _ _ _ (r.only_related _) (λ c. HasRegisteredValue-related c.0 c.1)

  steps_or_offer-related : (called : Text) (h : HelperView) (steps : Option (List Step))
      → r.Relates (steps_or_offer p s called h steps) (steps_or_offer p' s' called h steps)
  steps_or_offer-related called h None =
      r.then_related _ _ _ _ (user_related.offer called _) (λ offer. r.only_related _)
  steps_or_offer-related called h (Some steps) = r.only_related _

  HasRegisteredChoice-related : (k : Callee) (h : HelperView)
      → r.Relates (HasRegisteredChoice p s k h) (HasRegisteredChoice p' s' k h)
  HasRegisteredChoice-related (built kind) h = r.only_related _
  HasRegisteredChoice-related (user called) h =
      r.then_related _ _ _ _ (user_related.steps called _) (steps_or_offer-related called h)

  HasChoice-related : (target : Target) (h : HelperView) → r.Relates (HasChoice p s target h) (HasChoice p' s' target h)
  HasChoice-related (calls_registered k) h = HasRegisteredChoice-related k h
  HasChoice-related (calls_local called) h =
      r.then_related _ _ _ _ (r.only_related _) (λ c. HasRegisteredChoice-related c.0 c.1)

  -- ---- decorators and user-defined escape functions

  HasActions-related : (kind : DecoratorKind) (v : DecoratorView) → r.Relates (HasActions p s kind v) (HasActions p' s' kind v)
  HasActions-related kind_inline v = r.only_related _
  HasActions-related (kind_user called) v = user_related.actions called _

  HasEscaped-related : (escape : Escaping) (t : Text)
      → r.Relates (HasEscaped escape p.parts.user_escape t) (HasEscaped escape p.parts.user_escape t)
  HasEscaped-related for_html t = r.only_related _
  HasEscaped-related for_plain t = r.only_related _
  HasEscaped-related by_user t = user_related.escape t

  -- ---- parameters and calls

  is_written-related : (q : Param) (m n : Asks Found) → r.Relates m n → r.Relates (is_written q m) (is_written q n)
  is_written-related q m n same = r.then_related m n _ _ same (λ v. r.only_related _)

  is_viewed-related : (m m' : Asks Text) (n n' : Asks (List PathAndData)) (o o' : Asks (List (Text × PathAndData)))
      → r.Relates m m' → r.Relates n n' → r.Relates o o' → r.Relates (is_viewed m n o) (is_viewed m' n' o')
  is_viewed-related m m' n n' o o' x y z = r.then_related m m' _ _ x (λ called. r.then_related n n' _ _ y (λ vs.
      r.then_related o o' _ _ z (λ ws. r.only_related _)))

  mutual
    HasValue-related : (q : Param) → r.Relates (HasValue p s q) (HasValue p' s' q)
    HasValue-related (subexpression e) = HasInnerValue-related e
    HasValue-related (name n) = r.only_related _
    HasValue-related (path l) = r.only_related _
    HasValue-related (literal d) = r.only_related _

    HasInnerValue-related : (e : Element) → r.Relates (HasInnerValue p s e) (HasInnerValue p' s' e)
    HasInnerValue-related (escaped_expression (call n (args ps hs) names t marks)) = r.then_related _ _ _ _
        (is_viewed-related _ _ _ _ _ _ (HasName-related n) (HaveValues-related ps) (HashHasValues-related hs))
        (λ v. HasHelpedValue-related _ _)
    HasInnerValue-related e = r.only_related _

    HasName-related : (q : Param) → r.Relates (HasName p s q) (HasName p' s' q)
    HasName-related (subexpression e) = r.then_related _ _ _ _ (HasInnerValue-related e) (λ v. r.only_related _)
    HasName-related (name n) = r.only_related _
    HasName-related (path l) = r.only_related _
    HasName-related (literal d) = r.only_related _

    HaveValues-related : (qs : Params) → r.Relates (HaveValues p s qs) (HaveValues p' s' qs)
    HaveValues-related no_params = r.only_related _
    HaveValues-related (param q qs) = r.then_related _ _ _ _ (is_written-related q _ _ (HasValue-related q))
        (λ v. r.then_related _ _ _ _ (HaveValues-related qs) (λ vs. r.only_related _))

    HashHasValues-related : (hs : Hash) → r.Relates (HashHasValues p s hs) (HashHasValues p' s' hs)
    HashHasValues-related no_hash = r.only_related _
    HashHasValues-related (hash_pair k q hs) = r.then_related _ _ _ _ (is_written-related q _ _ (HasValue-related q))
        (λ v. r.then_related _ _ _ _ (HashHasValues-related hs) (λ ws. r.only_related _))

  HasView-related : (n : Param) (xs : Args) → r.Relates (HasView p s n xs) (HasView p' s' n xs)
  HasView-related n xs = is_viewed-related _ _ _ _ _ _ (HasName-related n) (HaveValues-related (args_params xs))
      (HashHasValues-related (args_hash xs))

  -- ---- sections

  HasSectionPath-related : (q : Param) (v : CallView) → r.Relates (HasSectionPath q v) (HasSectionPath q v)
  HasSectionPath-related (name n) v = r.path_related n v
  HasSectionPath-related (path l) v = r.only_related _
  HasSectionPath-related (literal d) v = r.only_related _
  HasSectionPath-related (subexpression e) v = r.only_related _

  pub HasSectionIf-related : (b : Bool) (q : Param) (v : CallView)
      → r.Relates (HasSectionIf b p s q v) (HasSectionIf b p' s' q v)
  HasSectionIf-related true q v = r.then_related _ _ _ _ (HasSectionPath-related q v)
      (λ l. r.then_related _ _ _ _ (r.only_related _) (λ found. r.only_related _))
  HasSectionIf-related false q v = r.only_related _

  -- What a block without a helper is asked is related, whether it has parameters and hash arguments or not.
  abbrev pub SectionsRelated : Type 0
  SectionsRelated = (b : Bool) (q : Param) (v : CallView)
      → r.Relates (HasSectionIf (p.parts.sections && b) p s q v) (HasSectionIf (sections && b) p' s' q v)

  HasCalled-related : SectionsRelated → (block : Bool) (e : Call) (v : CallView) (target : Option Target)
      → r.Relates (HasCalled p s block e v target) (HasCalled p' s' block e v target)
  HasCalled-related are block e v None = are (block && is_value e) (call_name e) v
  HasCalled-related are block e v (Some k) = r.only_related _

  pub IsAnswered-related_with : SectionsRelated → (q : Question) → r.Relates (IsAnswered p s q) (IsAnswered p' s' q)
  IsAnswered-related_with are (value_of q) = HasValue-related q
  IsAnswered-related_with are (view_of n xs) = HasView-related n xs
  IsAnswered-related_with are (helper_of n) = r.only_related _
  IsAnswered-related_with are (called_as block e v) =
      HasCalled-related are block e v (helper_for p.parts s block v.name)
  IsAnswered-related_with are (hook_for q) = r.only_related _
  IsAnswered-related_with are (choice_of target h) = HasChoice-related target h
  IsAnswered-related_with are (escape_of t) = HasEscaped-related p.parts.escape t
  IsAnswered-related_with are (decorator_of n) = r.only_related _
  IsAnswered-related_with are (actions_of kind v) = HasActions-related kind v

-- where there are sections in both settings, or in none
pub IsAnswered-related : (r : Relation) (p : Setting) → UserRelated r p.parts → (template : Text → Option Tree) (limit : ℕ)
    (s : State) (c : Option Text) (q : Question)
    → r.Relates (IsAnswered p s q) (IsAnswered (other_setting p template limit) (record s { current = c }) q)
IsAnswered-related r p user_related template limit s c =
    IsAnswered-related_with r p user_related template limit p.parts.sections s c
    (λ b. HasSectionIf-related r p user_related template limit p.parts.sections s c (p.parts.sections && b))
