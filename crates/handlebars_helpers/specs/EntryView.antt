-- What the entries under names of helpers stand for.
use Rattle.std.specs.Prelude.{◌≡◌, List, Option, Some, None, option_map}
use Rattle.handlebars_base.specs.Answers.{Answer, gives}
use Rattle.handlebars_base.specs.Bytes.{Text}
use Rattle.handlebars_helpers.specs.ByNameView.{entry_at}
use Rattle.handlebars_helpers.specs.Callee.{Callee, built, user}
use Rattle.handlebars_helpers.specs.SafeUrl.{safe_url_helper}
use Rattle.handlebars_helpers.specs.UserHelper.{HelperQuestion, Step, Offer, UserHelper, no_user_helper}
use Rattle.handlebars_helpers.specs.View.{built_in_kind}
use Rattle.handlebars_helpers.specs.declared.by_name.ByName.{ByName}
use Rattle.handlebars_helpers.specs.declared.user.entry.HelperEntryOf.{HelperEntryOf}
use Rattle.handlebars_helpers.specs.declared.user.entry.HelperEntryOf.TheVariants.{Built, Own, Function, Value, SafeUrl}

module _ {B F : Type 0} where
  -- what an entry under this name is
  abbrev pub entry_callee : Text → HelperEntryOf B F → Callee
  entry_callee name (Built kind) = built (built_in_kind kind)
  entry_callee name (Own h) = user name
  entry_callee name (Function f) = user name
  entry_callee name (Value h) = user name
  entry_callee name SafeUrl = user name

  -- what is registered under a name, if anything is
  abbrev pub callees_of : ByName (HelperEntryOf B F) → Text → Option Callee
  callees_of helpers name = option_map (entry_callee name) (entry_at helpers name)

  -- What the user-defined helper under this name answers, given what the stored ones answer.
  module _ (has_steps : B → HelperQuestion → Answer (Option (List Step)) → Type 0) (has_offer : B → HelperQuestion → Answer Offer → Type 0)
      (function_steps : F → HelperQuestion → Answer (Option (List Step)) → Type 0) (function_offer : F → HelperQuestion → Answer Offer → Type 0) where
    abbrev pub user_at : Text → Option (HelperEntryOf B F) → UserHelper
    user_at name None = no_user_helper name
    user_at name (Some (Built kind)) = no_user_helper name
    user_at name (Some (Own h)) = record { has_steps = has_steps h; has_offer = has_offer h }
    user_at name (Some (Function f)) = record { has_steps = function_steps f; has_offer = function_offer f }
    user_at name (Some (Value h)) = record { has_steps = λ q a. a ≡ gives None; has_offer = has_offer h }
    user_at name (Some SafeUrl) = safe_url_helper
