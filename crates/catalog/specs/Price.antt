-- What the helper `price` offers.
use Rattle.std.specs.Prelude.{ℕ, ◌++◌, ◌/◌, ◌%◌, Option, codes, decimal}
use Rattle.serde_json.specs.Data.{string}
use Rattle.serde_json.specs.Find.{as_number, as_u64}
use Rattle.handlebars_base.specs.Answers.{Answer, gives, fails_for}
use Rattle.handlebars_base.specs.Bytes.{Text}
use Rattle.handlebars_base.specs.Optional.{◌>>=◌, with_or}
use Rattle.handlebars_base.specs.Reasons.{invalid_param_type}
use Rattle.handlebars_base.specs.Scoped.{data_in}
use Rattle.handlebars_helpers.specs.CallView.{HelperView, param_at}
use Rattle.handlebars_helpers.specs.UserHelper.{Offer, offers}

-- an amount of cents in euros: 1250 is `12.50 EUR`
abbrev pub euros : ℕ → Text
euros cents = decimal (cents / 100) ++ codes "." ++ decimal (cents / 10 % 10) ++ decimal (cents % 10) ++ codes " EUR"

-- the first parameter of a call, if it is a whole number from 0
abbrev pub amount : HelperView → Option ℕ
amount h = param_at 0 h.call >>= λ p. as_number (data_in p.found) >>= as_u64

-- the amount as a text, or an error
abbrev pub price_offered : HelperView → Answer Offer
price_offered h = with_or (amount h) (λ n. gives (offers (string (euros n)))) (fails_for (invalid_param_type (codes "cents")))
