-- Why a template or a registry breaks the rule of data, and where.
use Rattle.std.specs.Prelude.{ℕ, Bool, true, false, ◌&&◌, ◌==◌, if◌then◌else◌, List, [], ◌∷◌, ◌++◌, map, Option, None, Some, option_map}
use Rattle.std.specs.Str.{bytes_eq}
use Rattle.handlebars_base.specs.Bytes.{Text}
use Rattle.handlebars_template.specs.Position.{Position}
use Rattle.handlebars_html.specs.Html.{Html}
use Rattle.handlebars_html.specs.Same.{is_same}

-- Why a template breaks the rule:
-- - A value stands in this state, in which data may not stand.
-- - A value stands after a text of which nothing more is said.
-- - An html expression writes its value unescaped.
-- - A text stands in this state, in which a blank before it, as an indentation may write it, would change what it means.
-- - A text changes what an attribute before it means, in which data may stand.
-- - A text would make a scheme of an address that was written as a value.
-- - Iterations begin in the first state, and one of them ends in the second.
-- - A block that may be captured ends in this state, and not in that in which captured text begins.
-- - Captured text is included in this state, and not in that in which captured text begins.
-- - An inclusion has a name that is made when it is rendered.
-- - A block has a name that is made when it is rendered.
-- - The indentation of an inclusion has other bytes than blanks.
-- - An expression has bodies, which it has in no source.
-- Why a registry breaks it:
-- - Values are not escaped for html.
-- - The user-defined helper of this name has steps, and so may write anything.
-- - Another built-in helper than that of this name is registered under it, or none.
-- - A user-defined helper is registered under this name, which is that of a hook.
-- - Another decorator than that of this name is registered under it, or none.
pub data Why : Type 0 where
  unsafe_value : Html → Why
  unread_value : Why
  unescaped_value : Why
  changed_text : Html → Why
  late_attribute : Why
  changed_address : Why
  changed_by_iteration : Html → Html → Why
  changed_by_block : Html → Why
  captured_text_in : Html → Why
  made_inclusion : Why
  made_block : Why
  other_indent : Why
  expression_bodies : Why
  other_escape : Why
  helper_with_steps : Text → Why
  misplaced_helper : Text → Why
  user_hook : Text → Why
  user_decorator : Text → Why

-- in which template, if it has a name; at which line and column, if they are known; and why
pub record Fault : Type 0 where
  pub template : Option Text
  pub line : Option ℕ
  pub column : Option ℕ
  pub why : Why

-- all at one position
abbrev pub faults_at : Option Text → Option Position → List Why → List Fault
faults_at n p ws = map (λ w. record {
  template = n;
  line = option_map (λ (q : Position). q.line) p;
  column = option_map (λ (q : Position). q.column) p;
  why = w;
}) ws

-- this reason, if the test fails
abbrev pub unless : Bool → Why → List Why
unless true w = []
unless false w = w ∷ []

-- ---- whether two faults are one

-- The reasons are one, with the same states and names in them.
abbrev pub is_same_why : Why → Why → Bool
is_same_why (unsafe_value h) (unsafe_value g) = is_same h g
is_same_why unread_value unread_value = true
is_same_why unescaped_value unescaped_value = true
is_same_why (changed_text h) (changed_text g) = is_same h g
is_same_why late_attribute late_attribute = true
is_same_why changed_address changed_address = true
is_same_why (changed_by_iteration h k) (changed_by_iteration g l) = is_same h g && is_same k l
is_same_why (changed_by_block h) (changed_by_block g) = is_same h g
is_same_why (captured_text_in h) (captured_text_in g) = is_same h g
is_same_why made_inclusion made_inclusion = true
is_same_why made_block made_block = true
is_same_why other_indent other_indent = true
is_same_why expression_bodies expression_bodies = true
is_same_why other_escape other_escape = true
is_same_why (helper_with_steps n) (helper_with_steps m) = bytes_eq n m
is_same_why (misplaced_helper n) (misplaced_helper m) = bytes_eq n m
is_same_why (user_hook n) (user_hook m) = bytes_eq n m
is_same_why (user_decorator n) (user_decorator m) = bytes_eq n m
is_same_why v w = false

-- both have this name, or neither has one
abbrev pub is_same_name : Option Text → Option Text → Bool
is_same_name None None = true
is_same_name (Some n) (Some m) = bytes_eq n m
is_same_name n m = false

-- both have this number, or neither has one
abbrev pub is_same_number : Option ℕ → Option ℕ → Bool
is_same_number None None = true
is_same_number (Some x) (Some y) = x == y
is_same_number x y = false

-- The same reason, in the same template and at the same position.
abbrev pub is_same_fault : Fault → Fault → Bool
is_same_fault x y =
    is_same_name x.template y.template
    && (is_same_number x.line y.line && (is_same_number x.column y.column && is_same_why x.why y.why))

-- whether the fault is one of these
abbrev pub has_fault : List Fault → Fault → Bool
has_fault [] x = false
has_fault (y ∷ ys) x = if is_same_fault y x then true else has_fault ys x

-- The fault is added at the end, unless it is among them.
abbrev pub with_fault : List Fault → Fault → List Fault
with_fault ys x = if has_fault ys x then ys else ys ++ x ∷ []

-- with each of these, one after another
abbrev pub with_faults : List Fault → List Fault → List Fault
with_faults ys [] = ys
with_faults ys (x ∷ xs) = with_faults (with_fault ys x) xs
