-- Tables that are lists of rows, and lists of states without duplicates.
use Rattle.std.specs.Prelude.{◌≡◌, Bool, true, false, not, ◌&&◌, if◌then◌else◌, List, [], ◌∷◌, ◌++◌, map}
use Rattle.std.specs.List.{filter}
use Rattle.std.specs.Str.{bytes_eq}
use Rattle.handlebars_base.specs.Bytes.{Text}
use Rattle.handlebars_html.specs.Html.{Html}
use Rattle.handlebars_html.specs.Rule.{Registered, Table}
use Rattle.handlebars_html.specs.Safety.{html_rule}
use Rattle.handlebars_html.specs.Same.{is_same}

-- ---- states

-- whether the state is one of these
abbrev pub is_among : List Html → Html → Bool
is_among [] h = false
is_among (g ∷ gs) h = if is_same g h then true else is_among gs h

-- The state is added at the end, unless it is among them.
abbrev pub with_state : List Html → Html → List Html
with_state hs h = if is_among hs h then hs else hs ++ h ∷ []

-- with each of these, one after another
abbrev pub with_states : List Html → List Html → List Html
with_states hs [] = hs
with_states hs (g ∷ gs) = with_states (with_state hs g) gs

-- what a function gives for each state, each once
abbrev pub each_state : (Html → Html) → List Html → List Html
each_state f hs = with_states [] (map f hs)

-- all states but this one
abbrev pub without_state : List Html → Html → List Html
without_state hs g = filter (λ h. not (is_same h g)) hs

-- ---- rows

-- A row of a table: something may be included by this name in this state; or what is included by this name in the first state
-- may end in the second.
pub data Row : Type 0 where
  entering : Text → Html → Row
  leaving : Text → Html → Html → Row

-- whether the name and the state are these
abbrev pub is_at : Text → Html → Text → Html → Bool
is_at m g n h = bytes_eq m n && is_same g h

-- whether the rows say that something may be included by this name in this state
abbrev pub has_entering : List Row → Text → Html → Bool
has_entering [] n h = false
has_entering (entering m g ∷ rows) n h = if is_at m g n h then true else has_entering rows n h
has_entering (leaving m g x ∷ rows) n h = has_entering rows n h

-- the states in which what is included by this name in this state may end
abbrev pub leaving_states : List Row → Text → Html → List Html
leaving_states [] n h = []
leaving_states (entering m g ∷ rows) n h = leaving_states rows n h
leaving_states (leaving m g x ∷ rows) n h =
    if is_at m g n h then x ∷ leaving_states rows n h else leaving_states rows n h

-- whether the rows say what this one says
abbrev pub has_row : List Row → Row → Bool
has_row rows (entering n h) = has_entering rows n h
has_row rows (leaving n h g) = is_among (leaving_states rows n h) g

-- The row is added at the end, unless it is among them.
abbrev pub with_row : List Row → Row → List Row
with_row rows r = if has_row rows r then rows else rows ++ r ∷ []

-- with each of these, one after another
abbrev pub with_rows : List Row → List Row → List Row
with_rows rows [] = rows
with_rows rows (r ∷ rs) = with_rows (with_row rows r) rs

-- the rows for the states in which what is included by this name in this state ends
abbrev pub leavings : Text → Html → List Html → List Row
leavings n h gs = map (λ g. leaving n h g) gs

-- ---- tables

-- the table of these rows, with these helpers
abbrev pub table_of : (Text → Registered) → List Row → Table html_rule
table_of registered rows = record {
  registered = registered;
  enters = λ n h. has_entering rows n h ≡ true;
  leaves = λ n h g. is_among (leaving_states rows n h) g ≡ true;
}

-- The table says what the row says.
abbrev pub IsInTable : Table html_rule → Row → Type 0
IsInTable table (entering n h) = table.enters n h
IsInTable table (leaving n h g) = table.leaves n h g
