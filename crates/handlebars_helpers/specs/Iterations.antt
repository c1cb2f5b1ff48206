-- How `each` and `with` set up their scope frames.
use Rattle.std.specs.Prelude.{ℕ, ◌+◌, ◌==◌, List, [], ◌∷◌, ◌++◌, Bool, Option, None, Some, codes, decimal}
use Rattle.serde_json.specs.Data.{Data, null, boolean, number, unsigned, string, array, object, Items, no_items, item, Members, no_members, member}
use Rattle.handlebars_base.specs.Bytes.{Text}
use Rattle.handlebars_base.specs.Optional.{with_or}
use Rattle.handlebars_template.specs.Tree.{Binding, no_binding, single, both}
use Rattle.handlebars_scope.specs.Scopes.{nothing_at, put_at, Bound, bound_value, Frame, empty_frame, Base, at_path, at_value, frame_at, bound_base}
use Rattle.handlebars_helpers.specs.CallView.{single_name, both_names}

-- ---- iterations

-- One iteration of `each`: the index of the member, from 0; its key, if it is one of an object; whether it is the last; and
-- the member.
pub record Iteration : Type 0 where
  pub index : ℕ
  pub key : Option Text
  pub last : Bool
  pub member : Data

-- the iterations of the members of an array of n, from the index i on
abbrev pub item_iterations : ℕ → ℕ → Items → List Iteration
item_iterations n i no_items = []
item_iterations n i (item d ds) = record { index = i; key = None; last = i + 1 == n; member = d } ∷ item_iterations n (i + 1) ds

-- the iterations of the members of an object of n, from the index i on, in the order of their keys
abbrev pub member_iterations : ℕ → ℕ → Members → List Iteration
member_iterations n i no_members = []
member_iterations n i (member k d ms) =
    record { index = i; key = Some k; last = i + 1 == n; member = d } ∷ member_iterations n (i + 1) ms

abbrev pub item_count : Items → ℕ
item_count no_items = 0
item_count (item d ds) = item_count ds + 1

abbrev pub member_count : Members → ℕ
member_count no_members = 0
member_count (member k d ms) = member_count ms + 1

-- one iteration for each member; only arrays and objects have any
abbrev pub iterations_of : Data → List Iteration
iterations_of null = []
iterations_of (boolean b) = []
iterations_of (number n) = []
iterations_of (string s) = []
iterations_of (array ds) = item_iterations (item_count ds) 0 ds
iterations_of (object ms) = member_iterations (member_count ms) 0 ms

-- ---- an iteration's scope frame

-- the name that leads to the member: its key, or the digits of its index
abbrev pub iteration_name : Iteration → Text
iteration_name t = with_or t.key (λ k. k) (decimal t.index)

-- the key as a value, or the index if there is no key
abbrev pub iteration_key : Iteration → Data
iteration_key t = with_or t.key string (number (unsigned t.index))

-- The base of an iteration is its member: the member's path, if what is iterated over has one, otherwise its value.
abbrev pub iteration_base : Option (List Text) → Iteration → Base
iteration_base (Some path) t = at_path (path ++ (iteration_name t ∷ []))
iteration_base None t = at_value t.member

-- the variables of an iteration, set in addition to those that are there: `first`, `last`, `index`, and for objects `key`
abbrev pub with_key : Option Text → (Text → Option Data) → Text → Option Data
with_key None variables = variables
with_key (Some k) variables = put_at (codes "key") (string k) variables

abbrev pub iteration_variables : Iteration → (Text → Option Data) → Text → Option Data
iteration_variables t variables =
    with_key t.key
    (put_at (codes "index") (number (unsigned t.index))
    (put_at (codes "last") (boolean t.last)
    (put_at (codes "first") (boolean (t.index == 0)) variables)))

-- The first name is bound to the member, a second one to its key or index. If the two names are equal, the second binding
-- holds.
abbrev pub bind_one : Option Text → Bound → Text → Option Bound
bind_one None b = nothing_at
bind_one (Some name) b = put_at name b nothing_at

abbrev pub bind_both : Option (Text × Text) → Bound → Bound → Text → Option Bound
bind_both None b second = nothing_at
bind_both (Some names) b second = put_at names.1 second (put_at names.0 b nothing_at)

abbrev pub bound_in_iteration : Binding → Bound → Data → Text → Option Bound
bound_in_iteration no_binding b key = nothing_at
bound_in_iteration (single p) b key = bind_one (single_name (single p)) b
bound_in_iteration (both p q) b key = bind_both (both_names (both p q)) b (bound_value key)

-- The scope frame of `each`, set up for an iteration. Its other fields are unchanged from iteration to iteration.
abbrev pub iteration_frame : Option (List Text) → Binding → Iteration → Frame → Frame
iteration_frame path binding t f =
    let base = iteration_base path t in
    record (frame_at base f) {
      bound = bound_in_iteration binding (bound_base base) (iteration_key t);
      variable = iteration_variables t f.variable;
    }

-- The scope frame of `with`: it has this base, to which the name is bound, if exactly one is, and these variables.
abbrev pub with_frame : Base → Binding → (Text → Option Data) → Frame
with_frame base binding variables =
    record (frame_at base empty_frame) { bound = bind_one (single_name binding) (bound_base base); variable = variables }
