-- The parameters that helpers require.
use Rattle.std.specs.Prelude.{ℕ, Bool, true, false, ◌&&◌, if◌then◌else◌}
use Rattle.serde_json.specs.Data.{Data}
use Rattle.handlebars_base.specs.Answers.{Answer, gives, fails_for}
use Rattle.handlebars_base.specs.Bytes.{Text}
use Rattle.handlebars_base.specs.PathAndData.{PathAndData}
use Rattle.handlebars_base.specs.Optional.{with_or}
use Rattle.handlebars_base.specs.Reasons.{param_not_found_for_index}
use Rattle.handlebars_base.specs.Scoped.{Found, walked, value, missing, data_in}
use Rattle.handlebars_helpers.specs.CallView.{CallView, param_at}

abbrev pub is_missing : Found → Bool
is_missing (walked d path) = false
is_missing (value d) = false
is_missing missing = true

-- By a parameter, counted from 0. Fails with `param_not_found_for_index` if the call has no such parameter. A parameter with
-- a missing value is there.
abbrev pub by_param : {A : Type 0} → Text → ℕ → CallView → (PathAndData → Answer A) → Answer A
by_param helper i v f = with_or (param_at i v) f (fails_for (param_not_found_for_index helper i))

-- By the value of a parameter. A missing value counts as null, and in strict mode as an absent parameter.
abbrev pub by_value : {A : Type 0} → Bool → Text → ℕ → CallView → (Data → Answer A) → Answer A
by_value strict helper i v f =
    by_param helper i v (λ p. if strict && is_missing p.found then fails_for (param_not_found_for_index helper i)
    else f (data_in p.found))

-- the values of the first two parameters; the first is read first
abbrev pub two_values : Bool → Text → CallView → Answer (Data × Data)
two_values strict helper v = by_value strict helper 0 v (λ x. by_value strict helper 1 v (λ y. gives (x, y)))
