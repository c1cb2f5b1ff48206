-- The target of a name: its local helper, or else what is registered.
use Rattle.std.proofs.Common.{◌≡◌, true, false, Option, Some, None, option_map, is_some, refl, sym, true≢false}
use Rattle.handlebars_base.specs.Bytes.{Text}
use Rattle.handlebars_scope.specs.Resolve.{or_else}
use Rattle.handlebars_helpers.specs.Callee.{LocalHelper, Target, calls_local}

-- a local helper comes first
pub local-there : (name : Text) (here : Option LocalHelper) (other : Option Target) → true ≡ is_some here
    → Some (calls_local name) ≡ or_else (option_map (λ l. calls_local name) here) other
local-there name None other is = absurd (true≢false is)
local-there name (Some l) other is = refl

-- without one, the other target is the target
pub no-local : (name : Text) (here : Option LocalHelper) (other : Option Target) → false ≡ is_some here
    → other ≡ or_else (option_map (λ l. calls_local name) here) other
no-local name None other is = refl
no-local name (Some l) other is = absurd (true≢false (sym is))
