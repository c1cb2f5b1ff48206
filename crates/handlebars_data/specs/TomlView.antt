-- Turning values of TOML into data. For private clauses.
use Rattle.std.specs.Prelude.{◌≡◌, Option, Some, None, Result, MatchResult, ⊤}
use Rattle.toml.specs.Errors as toml
use Rattle.toml.specs.declared.de.error.Error.{Error}
use Rattle.handlebars_data.specs.declared.toml_text.Unread.{Unread}
use Rattle.handlebars_data.specs.declared.toml_text.Unread.TheVariants.{Float, OutOfMemory}

-- what an error says
abbrev pub IsUnread : {A : Type 0} → Option A → Unread → Type 0
IsUnread found Float = found ≡ None
IsUnread found OutOfMemory = ⊤

-- the result is the data, as `seen` shows it, unless memory ran out
abbrev pub Gives : {T A : Type 0} → (T → A) → Result T Unread → Option A → Type 0
Gives seen r found = MatchResult r (λ x. found ≡ Some (seen x)) (IsUnread found)

abbrev pub IsTomlMemory : Error → Type 0
IsTomlMemory e = toml.IsMemory e
