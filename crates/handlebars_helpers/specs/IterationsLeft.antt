-- The iterations of `each` that are left.
use Rattle.std.specs.Prelude.{ℕ, ◌+◌, ◌==◌, List, [], ◌∷◌, length, Option, None, Some, option_map}
use denote.Ref.{Bor}
use Rattle.std.specs.Slice.Iter.{iter_rest}
use Rattle.serde_json.specs.View.{view, items_view, members_view}
use Rattle.serde_json.specs.declared.value.Value.{Value}
use Rattle.handlebars_base.specs.Bytes.{Text}
use Rattle.handlebars_helpers.specs.Iterations.{Iteration, item_iterations, member_iterations}
use Rattle.handlebars_helpers.specs.declared.each_iterations.state.MembersLeft.{MembersLeft}
use Rattle.handlebars_helpers.specs.declared.each_iterations.state.MembersLeft.TheVariants.{OfArray, OfObject}

abbrev pub left_count : MembersLeft → ℕ
left_count (OfArray items) = length (iter_rest items)
left_count (OfObject members) = length members

-- the iterations of the members that are left, out of n, from the index i on
abbrev pub left_iterations : ℕ → ℕ → MembersLeft → List Iteration
left_iterations n i (OfArray items) = item_iterations n i (items_view (iter_rest items))
left_iterations n i (OfObject members) = member_iterations n i (members_view members)

-- the iteration of a member and its key, if it is one of an object
abbrev pub iteration_at : ℕ → ℕ → Option (Bor Text) × Bor Value → Iteration
iteration_at n i m = record { index = i; key = option_map (λ k. k.now) m.0; last = i + 1 == n; member = view m.1.now }

-- the next iteration, if there is one, and those after it
abbrev pub iterations_with : Option Iteration → List Iteration → List Iteration
iterations_with None ts = []
iterations_with (Some t) ts = t ∷ ts
