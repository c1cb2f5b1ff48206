-- The answers of the user-defined parts.
use Rattle.std.specs.Prelude.{ℕ, ◌++◌, List, [], ◌∷◌, codes, if◌then◌else◌, is_some}
use Rattle.serde_json.specs.Data.{Data}
use Rattle.handlebars_base.specs.Bytes.{Text}
use Rattle.handlebars_base.specs.Optional.{with_or}
use Rattle.handlebars_base.specs.Scoped.{data_in}
use Rattle.handlebars_base.specs.Values.{rendered}
use Rattle.handlebars_helpers.specs.CallView.{CallView, HelperView, param_at}

-- the text of a parameter; empty if there is no such parameter
abbrev pub shown_at : ℕ → HelperView → Text
shown_at i h = with_or (param_at i h.call) (λ p. rendered (data_in p.found)) []

-- a number of metres, or of the unit before it
abbrev pub distance : HelperView → Text
distance h =
    if is_some (param_at 1 h.call) then shown_at 1 h ++ shown_at 0 h else shown_at 0 h ++ codes "m"

-- the first value of a tag, if it has one
abbrev pub first_values : CallView → List Data
first_values v = with_or (param_at 0 v) (λ p. data_in p.found ∷ []) []
