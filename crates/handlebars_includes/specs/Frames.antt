-- The scope frames around an element within its template, and what hides a name there.
use Rattle.std.specs.Prelude.{ℕ, ◌+◌, ◌-◌, Bool, true, false, ◌&&◌, ◌||◌, ◌==◌, if◌then◌else◌, List, [], ◌∷◌, ◌++◌, Option, None, Some}
use Rattle.std.specs.Str.{bytes_eq}
use Rattle.handlebars_base.specs.Bytes.{Text}
use Rattle.handlebars_base.specs.Optional.{with_or}
use Rattle.handlebars_base.specs.Path.{Segment, named, root, local, up}
use Rattle.handlebars_template.specs.Position.{Position}
use Rattle.handlebars_template.specs.Tree.{Param, Binding, no_binding, single, both, Hash, no_hash, hash_pair, as_name}

-- A scope frame: of a block, which goes to another value, and binds these names; of a partial call at a position, which goes to
-- another value or stays at the one around, and binds the names of its hash arguments; or of the call of an inline partial,
-- which is within the frame where that is set. Of such a call nothing is known, and it counts as one without arguments.
pub data Frame : Type 0 where
  of_block : List Text → Frame
  of_call : Bool → List Text → Option Position → Frame
  of_inline : Frame

-- ---- what a frame binds

-- a name between bars
abbrev pub bar_name : Param → List Text
bar_name q = with_or (as_name q) (λ n. n ∷ []) []

abbrev pub bar_names : Binding → List Text
bar_names no_binding = []
bar_names (single q) = bar_name q
bar_names (both q r) = bar_name q ++ bar_name r

abbrev pub hash_keys : Hash → List Text
hash_keys no_hash = []
hash_keys (hash_pair k q hs) = k ∷ hash_keys hs

abbrev pub is_one_of : List Text → Text → Bool
is_one_of [] n = false
is_one_of (x ∷ xs) n = bytes_eq n x || is_one_of xs n

abbrev pub binds : Frame → Text → Bool
binds (of_block ns) n = is_one_of ns n
binds (of_call moves ns p) n = is_one_of ns n
binds of_inline n = false

-- whether its value is another one than that of the frame around
abbrev pub moves : Frame → Bool
moves (of_block ns) = true
moves (of_call m ns p) = m
moves of_inline = false

-- ---- hidden names

-- A name stands for what it seems to, or a hash argument of the partial call at this position hides that.
pub data Hiding : Type 0 where
  shown : Hiding
  hidden_by : Option Position → Hiding

-- What a frame that binds a name does to it, where a nearer frame has the value that the name seems to be of, or none has.
abbrev pub hiding_by : Frame → Bool → Hiding
hiding_by (of_block ns) past = shown
hiding_by (of_call m ns p) true = hidden_by p
hiding_by (of_call m ns p) false = shown
hiding_by of_inline past = shown

-- Of frames, nearest first, the first one that binds a name decides what it is, however many `..` are before it. Without that
-- the name would be of the frame as many frames out, or of one further out that this one stays at. Where that is a frame within
-- the one that decides, and at another value, a hash argument hides the name.
abbrev pub hiding : List Frame → ℕ → Bool → Text → Hiding
hiding [] ups past n = shown
hiding (f ∷ fs) ups past n =
    if binds f n then hiding_by f past else hiding fs (ups - 1) (past || ((ups == 0) && moves f)) n

-- The name that a path begins with after this many `..` and more. `@root`, and a path of no names, begin with none.
abbrev pub sought : ℕ → List Segment → Option (ℕ × Text)
sought ups [] = None
sought ups (named n ∷ ss) = Some (ups, n)
sought ups (root ∷ ss) = None
sought ups (local ∷ ss) = None
sought ups (up ∷ ss) = sought (ups + 1) ss
