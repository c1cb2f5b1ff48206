-- Where a path leads, among scope frames and into data.
use Rattle.std.specs.Prelude.{ℕ, ◌+◌, ◌^◌, List, [], ◌∷◌, ◌++◌, length, take, Bool, true, false, ◌&&◌, nat_lt, if◌then◌else◌, Option, Some, None, option_map, slice_get}
use Rattle.std.specs.Str.{all_ascii_digits}
use Rattle.std.specs.Str.Parse.{digits_value, without_leading_plus}
use Rattle.serde_json.specs.Data.{Data, null, boolean, number, string, array, object, Items}
use Rattle.serde_json.specs.Find.{get_member, get_item}
use Rattle.handlebars_base.specs.Answers.{Answer, gives, fails, fails_for, answer_map}
use Rattle.handlebars_base.specs.Bytes.{Text}
use Rattle.handlebars_base.specs.Path.{Segment, named, root, local, up, Reference, relative, variable}
use Rattle.handlebars_base.specs.Optional.{◌>>=◌, with_or}
use Rattle.handlebars_base.specs.Reasons.{invalid_json_index}
use Rattle.handlebars_base.specs.Scoped.{Found, walked, value, missing}
use Rattle.handlebars_scope.specs.Scopes.{Bound, bound_path, bound_value, Frame}

-- ---- walking

-- the value of one digit or more, if it is below 2^64
abbrev pub digits_index : Text → Option ℕ
digits_index ds =
    if all_ascii_digits ds && (nat_lt 0 (length ds) && nat_lt (digits_value 10 ds) (2 ^ 64))
    then Some (digits_value 10 ds) else None

-- an index is digits after at most one `+`
abbrev pub index_of : Text → Option ℕ
index_of name = digits_index (without_leading_plus name)

-- the item at an index, which may be missing; a name that isn't an index fails
abbrev pub item_at : Items → Text → Option ℕ → Answer (Option Data)
item_at ds name (Some i) = gives (get_item i ds)
item_at ds name None = fails_for (invalid_json_index name)

-- one name leads into an object or an array, and nowhere from any other value
abbrev pub member_at : Data → Text → Answer (Option Data)
member_at null name = gives None
member_at (boolean b) name = gives None
member_at (number n) name = gives None
member_at (string s) name = gives None
member_at (array ds) name = item_at ds name (index_of name)
member_at (object ms) name = gives (get_member name ms)

-- continues from a value, if there is one; a missing value stays missing
abbrev pub then_at : Answer (Option Data) → (Data → Answer (Option Data)) → Answer (Option Data)
then_at (gives (Some d)) next = next d
then_at (gives None) next = gives None
then_at (fails r) next = fails r

-- Names are looked up one after another. The empty list leads to the value itself.
abbrev pub value_at : Data → List Text → Answer (Option Data)
value_at d [] = gives (Some d)
value_at d (name ∷ names) = then_at (member_at d name) (λ e. value_at e names)

-- the value that names lead to, with them as its full path
abbrev pub found_along : List Text → Option Data → Found
found_along names (Some d) = walked d names
found_along names None = missing

-- the value that names lead to from a value of a block, which has no path
abbrev pub found_within : Option Data → Found
found_within (Some d) = value d
found_within None = missing

-- ---- the longest prefix

-- what one name leads to; a wrong index counts as missing
abbrev pub if_any : Answer (Option Data) → Option Data
if_any (gives found) = found
if_any (fails r) = None

-- the prefix has one more name
abbrev pub count_one_name : Option (ℕ × Data) → Option (ℕ × Data)
count_one_name None = None
count_one_name (Some found) = Some (found.0 + 1, found.1)

abbrev pub or_else : {X : Type 0} → Option X → Option X → Option X
or_else None other = other
or_else (Some x) other = Some x

-- The value of a name under the longest prefix of other names that has one: the number of names in the prefix, and the
-- value. Longer prefixes are tried first.
abbrev pub longest : Data → List Text → Text → Option (ℕ × Data)
longest d [] name = option_map (λ e. (0, e)) (if_any (member_at d name))
longest d (n ∷ ns) name =
    or_else (if_any (member_at d n) >>= λ e. count_one_name (longest e ns name))
    (option_map (λ e. (0, e)) (if_any (member_at d name)))

abbrev pub found_prefix : List Text → Text → Option (ℕ × Data) → Found
found_prefix base name None = missing
found_prefix base name (Some found) = walked found.1 (take found.0 base ++ name ∷ [])

-- ---- resolutions

-- How a path is resolved: from a value that a block holds, or from the data, along names; or, with recursive lookup, by
-- one name under the longest prefix of a base path.
pub data Resolution : Type 0 where
  in_block_value : Data → List Text → Resolution
  along : List Text → Resolution
  under_prefix : List Text → Text → Resolution

-- the value that a resolution leads to
abbrev pub found_by : Resolution → Data → Answer Found
found_by (in_block_value held names) d = answer_map found_within (value_at held names)
found_by (along names) d = answer_map (found_along names) (value_at d names)
found_by (under_prefix base name) d = gives (found_prefix base name (longest d base name))

-- ---- the segments of a path

-- the names among them; `..` and `@root` add none
abbrev pub names_of : List Segment → List Text
names_of [] = []
names_of (named n ∷ segments) = n ∷ names_of segments
names_of (root ∷ segments) = names_of segments
names_of (local ∷ segments) = names_of segments
names_of (up ∷ segments) = names_of segments

-- the number of `..` at the start
abbrev pub ups_in : List Segment → ℕ
ups_in [] = 0
ups_in (named n ∷ segments) = 0
ups_in (root ∷ segments) = 0
ups_in (local ∷ segments) = 0
ups_in (up ∷ segments) = ups_in segments + 1

-- the segments after them
abbrev pub after_ups : List Segment → List Segment
after_ups [] = []
after_ups (named n ∷ segments) = named n ∷ segments
after_ups (root ∷ segments) = root ∷ segments
after_ups (local ∷ segments) = local ∷ segments
after_ups (up ∷ segments) = after_ups segments

-- whether `@root` is at the start
abbrev pub is_from_root : List Segment → Bool
is_from_root [] = false
is_from_root (named n ∷ segments) = false
is_from_root (root ∷ segments) = true
is_from_root (local ∷ segments) = false
is_from_root (up ∷ segments) = false

-- the name, if the segments are one name alone
abbrev pub single_plain_name : List Segment → Option Text
single_plain_name [] = None
single_plain_name (named n ∷ []) = Some n
single_plain_name (named n ∷ (s ∷ segments)) = None
single_plain_name (root ∷ segments) = None
single_plain_name (local ∷ segments) = None
single_plain_name (up ∷ segments) = None

-- ---- bound names

-- the resolution by what a block binds a name to and by the segments after the name
abbrev pub resolution_of_bound : List Text → Bound → List Segment → Resolution
resolution_of_bound base (bound_path path) rest = along (base ++ (path ++ names_of rest))
resolution_of_bound base (bound_value d) rest = in_block_value d (names_of rest)

-- the resolution of a bound name: by the nearest block that binds it
abbrev pub resolution_of_name : List Frame → Text → List Segment → Option Resolution
resolution_of_name [] name rest = None
resolution_of_name (f ∷ fs) name rest =
    or_else (option_map (λ b. resolution_of_bound f.base_path b rest) (f.bound name)) (resolution_of_name fs name rest)

-- the resolution of segments that begin with a bound name
abbrev pub bound_resolution : List Frame → List Segment → Option Resolution
bound_resolution fs [] = None
bound_resolution fs (named n ∷ rest) = resolution_of_name fs n rest
bound_resolution fs (root ∷ rest) = None
bound_resolution fs (local ∷ rest) = None
bound_resolution fs (up ∷ rest) = None

-- ---- in a block

-- With recursive lookup a plain name is looked up under the prefixes of the base path.
abbrev pub resolution_from : Bool → List Text → List Segment → Option Text → Resolution
resolution_from true base segments (Some name) = under_prefix base name
resolution_from true base segments None = along (base ++ names_of segments)
resolution_from false base segments name = along (base ++ names_of segments)

-- In a block with a base value paths lead from that value. In any other block they lead from the data along its base path.
abbrev pub resolution_in : Bool → Frame → List Segment → Resolution
resolution_in recursive f segments =
    with_or f.base_value (λ d. in_block_value d (names_of segments))
    (resolution_from recursive f.base_path segments (single_plain_name segments))

-- the block this many blocks up, or the nearest one if there is no such block
abbrev pub frame_up : List Frame → ℕ → Option Frame
frame_up fs n = or_else (slice_get fs n) (slice_get fs 0)

-- Without any block the names lead from the data, and so they do after `@root`.
abbrev pub unbound_resolution : Bool → List Frame → List Segment → Resolution
unbound_resolution recursive fs segments =
    if is_from_root segments then along (names_of segments)
    else with_or (frame_up fs (ups_in segments)) (λ f. resolution_in recursive f segments) (along (names_of segments))

-- ---- where a path leads

-- A bound name takes precedence, also after `..`.
abbrev pub resolution_of : Bool → List Frame → List Segment → Resolution
resolution_of recursive fs segments =
    with_or (bound_resolution fs (after_ups segments)) (λ resolution. resolution) (unbound_resolution recursive fs segments)

-- what segments lead to, with recursive lookup or without, in these blocks and this data
abbrev pub navigate : Bool → List Frame → List Segment → Data → Answer Found
navigate recursive fs segments d = found_by (resolution_of recursive fs segments) d

-- the variable of the block this many blocks up; it is missing if there is no such block or no such variable
abbrev pub variable_at : List Frame → ℕ → Text → Option Data
variable_at fs level name = slice_get fs level >>= λ f. f.variable name

-- what a path leads to, with recursive lookup or without, in these blocks and this data
abbrev pub resolve : Bool → List Frame → Reference → Data → Answer Found
resolve recursive fs (relative segments text) d = navigate recursive fs segments d
resolve recursive fs (variable level name text) d = gives (found_within (variable_at fs level name))
