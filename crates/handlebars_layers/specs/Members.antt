-- Iterations of a value: each of them is one of its members, and either all have a key or none has.
use Rattle.std.specs.Prelude.{◌≡◌, Bool, true, false, List, [], ◌∷◌, Some, is_some}
use Rattle.serde_json.specs.Data.{Data, null, boolean, number, string, array, object}
use Rattle.handlebars_base.specs.Answers.{gives}
use Rattle.handlebars_helpers.specs.Iterations.{Iteration, iteration_name}
use Rattle.handlebars_scope.specs.Resolve.{member_at}

-- The name of the iteration leads from the value to its member.
abbrev pub IsMember : Data → Iteration → Type 0
IsMember v t = member_at v (iteration_name t) ≡ gives (Some t.member)

abbrev pub AllMembers : Data → List Iteration → Type 0
AllMembers v [] = Unit {0}
AllMembers v (t ∷ ts) = IsMember v t × AllMembers v ts

-- whether the members of a value have keys
abbrev pub has_keys : Data → Bool
has_keys null = false
has_keys (boolean b) = false
has_keys (number n) = false
has_keys (string s) = false
has_keys (array ds) = false
has_keys (object ms) = true

-- Each iteration has a key, or none has.
abbrev pub AllKeyed : Bool → List Iteration → Type 0
AllKeyed b [] = Unit {0}
AllKeyed b (t ∷ ts) = (is_some t.key ≡ b) × AllKeyed b ts
