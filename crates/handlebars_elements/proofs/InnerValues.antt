-- Values of calls in parentheses, which have no path.
use Rattle.std.proofs.Common.{◌≡◌, List, Option, Some, None, false, refl, ap, ◌∙◌}
use Rattle.handlebars_base.specs.Answers.{Answer, gives, fails, answer_map}
use Rattle.handlebars_base.specs.Bytes.{Text}
use Rattle.handlebars_base.specs.Scoped.{Found, missing, path_in, value}
use Rattle.handlebars_template.specs.Tree.{Element, args, call, comment, decorator_block, decorator_expression, escaped_expression, helper_block, html_expression, partial_block, partial_expression, raw_string}
use Rattle.handlebars_helpers.specs.CallView.{HelperView}
use Rattle.handlebars_helpers.specs.Callee.{Callee, Target, built, calls_local, calls_registered, user}
use Rattle.handlebars_helpers.specs.Choice.{Choice, built_in_choice}
use Rattle.handlebars_helpers.specs.UserHelper.{Offer, Step, not_offered, offers, offers_missing}
use Rattle.handlebars_semantics.specs.Asks.{goes_on}
use Rattle.handlebars_semantics.specs.State.{Setting, State, helper_for}
use Rattle.handlebars_semantics.specs.Values.{HasHelpedValue, HasInnerValue, HasRegisteredValue, choice_value, offer_or_text, text_if_any, view_without_bodies}

missing-unwalked : (found : Found) → gives found ≡ gives missing → path_in found ≡ None
missing-unwalked found is = let same : found ≡ missing = cc in ap path_in same

chosen-unwalked : (a : Answer Choice) (found : Found) → gives found ≡ answer_map choice_value a → path_in found ≡ None
chosen-unwalked (gives x) found is = let same : found ≡ choice_value x = cc in ap path_in same
chosen-unwalked (fails r) found is = cc

text-unwalked : (steps : Option (List Step)) → path_in (text_if_any steps) ≡ None
text-unwalked None = refl
text-unwalked (Some steps) = refl

module _ (p : Setting) (s : State) where
  offer-unwalked : (called : Text) (h : HelperView) (offer : Offer) (found : Found) → offer_or_text p s called h offer (gives found)
      → path_in found ≡ None
  offer-unwalked called h not_offered found (goes_on {x = steps} has is) =
      let same : found ≡ text_if_any steps = cc in ap path_in same ∙ text-unwalked steps
  offer-unwalked called h offers_missing found is = missing-unwalked found is
  offer-unwalked called h (offers d) found is = let same : found ≡ value d = cc in ap path_in same

  registered-unwalked : (k : Callee) (h : HelperView) (found : Found) → HasRegisteredValue p s k h (gives found) → path_in found ≡ None
  registered-unwalked (built kind) h found is = chosen-unwalked (built_in_choice p.parts.strict kind h) found is
  registered-unwalked (user called) h found (goes_on {x = offer} has rest) = offer-unwalked called h offer found rest

  helped-unwalked : (o : Option Target) (h : HelperView) (found : Found) → HasHelpedValue p s o h (gives found) → path_in found ≡ None
  helped-unwalked None h found is = cc
  helped-unwalked (Some (calls_registered k)) h found has = registered-unwalked k h found has
  helped-unwalked (Some (calls_local called)) h found (goes_on {x = c} has rest) = registered-unwalked c.0 c.1 found rest

  pub inner-unwalked : (e : Element) (found : Found) → HasInnerValue p s e (gives found) → path_in found ≡ None
  inner-unwalked (escaped_expression (call n (args ps hs) b t marks)) found (goes_on {x = v} viewed rest) =
      helped-unwalked (helper_for p.parts s false v.name) (view_without_bodies b v) found rest
  inner-unwalked (raw_string t) found is = missing-unwalked found is
  inner-unwalked (html_expression c) found is = missing-unwalked found is
  inner-unwalked (helper_block c) found is = missing-unwalked found is
  inner-unwalked (decorator_expression d) found is = missing-unwalked found is
  inner-unwalked (decorator_block d) found is = missing-unwalked found is
  inner-unwalked (partial_expression d) found is = missing-unwalked found is
  inner-unwalked (partial_block d) found is = missing-unwalked found is
  inner-unwalked (comment t) found is = missing-unwalked found is
