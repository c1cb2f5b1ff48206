-- What the helper of safe addresses offers is written as a safe address.
use Rattle.std.proofs.Common.{◌≡◌, Bool, true, false, refl, sym, subst, ◌&&◌, if◌then◌else◌, List, Option, None, Some, codes}
use Rattle.serde_json.specs.Data.{Data, string}
use Rattle.handlebars_base.specs.Answers.{Answer, gives, fails, fails_for}
use Rattle.handlebars_base.specs.Bytes.{Text}
use Rattle.handlebars_base.specs.Optional.{with_or}
use Rattle.handlebars_base.specs.PathAndData.{PathAndData}
use Rattle.handlebars_base.specs.Reasons.{param_not_found_for_index}
use Rattle.handlebars_base.specs.Scoped.{data_in}
use Rattle.handlebars_base.specs.Values.{rendered}
use Rattle.handlebars_helpers.specs.CallView.{CallView, param_at}
use Rattle.handlebars_helpers.specs.Params.{is_missing, by_value}
use Rattle.handlebars_helpers.specs.SafeUrl.{is_safe_url, safe_url, offer_of_call, safe_url_helper, IsSafeOffer, GivesUrls}
use Rattle.handlebars_helpers.specs.UserHelper.{HelperQuestion, Step, Offer, offers}

safe_url-safe : (t : Text) → is_safe_url (safe_url t) ≡ true
safe_url-safe t = by (is_safe_url t) refl
  where
    by : (b : Bool) → is_safe_url t ≡ b → is_safe_url (if b then t else codes "#") ≡ true
    by true is = is
    by false is = refl

abbrev IsSafeAnswer : Answer Offer → Type 0
IsSafeAnswer (gives o) = IsSafeOffer o
IsSafeAnswer (fails r) = Unit {0}

offer-safe : (strict : Bool) (v : CallView) → IsSafeAnswer (offer_of_call strict v)
offer-safe strict v = by (param_at 0 v)
  where
    by_test : (b : Bool) (d : Data)
        → IsSafeAnswer (if b then fails_for (param_not_found_for_index (codes "SafeUrl") 0) else gives (offers (string (safe_url (rendered d)))))
    by_test true d = tt
    by_test false d = safe_url-safe (rendered d)

    by : (o : Option PathAndData) → IsSafeAnswer (with_or o (λ x. if strict && is_missing x.found
        then fails_for (param_not_found_for_index (codes "SafeUrl") 0) else gives (offers (string (safe_url (rendered (data_in x.found))))))
        (fails_for (param_not_found_for_index (codes "SafeUrl") 0)))
    by None = tt
    by (Some x) = by_test (strict && is_missing x.found) (data_in x.found)

none-some : {P : Type 0} (steps : List Step) → gives (Some steps) ≡ gives None → P
none-some steps e = cc

pub safe_url_helper-gives : GivesUrls safe_url_helper
safe_url_helper-gives = record {
  values = λ q steps is. none-some steps is;
  urls = λ q o is. subst IsSafeAnswer (sym is) (offer-safe q.strict q.view.call);
}
