-- The states in which the templates of an item are rendered.
use Rattle.std.specs.Prelude.{ℕ, ◌-◌, ◌==◌, List, [], ◌∷◌, ◌++◌, codes, decimal, false}
use Rattle.serde_json.specs.Data.{Data, boolean, number, unsigned}
use Rattle.handlebars_base.specs.Bytes.{Text}
use Rattle.handlebars_scope.specs.Scopes.{Frame, empty_frame, nothing_at, put_at}
use Rattle.handlebars_semantics.specs.State.{State, first_state, push_frame}

-- the data of an index
abbrev pub index_data : ℕ → Data
index_data n = number (unsigned n)

-- the frame of an item alone: `@index` is set
abbrev pub index_frame : ℕ → Frame
index_frame n = record empty_frame { variable = put_at (codes "index") (index_data n) nothing_at }

-- the frame of a member of so many: `@index`, `@first` and `@last` are set, as in an `each`
abbrev pub counted_frame : ℕ → ℕ → Frame
counted_frame n count = record empty_frame {
  variable = put_at (codes "last") (boolean (count - n == 1)) (put_at (codes "first") (boolean (n == 0))
      (put_at (codes "index") (index_data n) nothing_at));
}

-- the frame at a member of a list: the names lead to the list
abbrev pub member_frame : List Text → ℕ → ℕ → Frame
member_frame names n count = record (counted_frame n count) { base_path = names ++ decimal n ∷ [] }

-- An item alone is rendered in one frame.
abbrev pub alone_at : ℕ → State
alone_at n = record (first_state false) { blocks = index_frame n ∷ [] }

-- A member is rendered in its frame, within that of all data.
abbrev pub within_at : List Text → ℕ → ℕ → State
within_at names n count = push_frame (member_frame names n count) (first_state false)
