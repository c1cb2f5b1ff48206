-- A path leads to values that are equal up to texts, if the scope frames and the data are.
use Rattle.std.proofs.Common.{◌≡◌, ℕ, ◌+◌, Bool, true, false, List, [], ◌∷◌, ◌++◌, Option, None, Some, option_map, option_and_then, refl, ap, subst}
use Rattle.std.specs.Prelude.{take}
use Rattle.std.specs.List.{slice_get}
use Rattle.serde_json.specs.Data.{Data}
use Rattle.handlebars_base.specs.Answers.{Answer, gives, fails, answer_map}
use Rattle.handlebars_base.specs.Bytes.{Text}
use Rattle.handlebars_base.specs.Optional.{with_or}
use Rattle.handlebars_base.specs.Path.{Segment, named, root, local, up, Reference, relative, variable}
use Rattle.handlebars_scope.specs.Resolve.{member_at, value_at, found_along, found_within, if_any, count_one_name, longest, found_prefix, Resolution, in_block_value, along, under_prefix, found_by, names_of, ups_in, after_ups, is_from_root, single_plain_name, resolution_of_bound, resolution_of_name, bound_resolution, resolution_from, resolution_in, frame_up, unbound_resolution, resolution_of, variable_at, resolve}
use Rattle.handlebars_scope.specs.Scopes.{Bound, bound_path, bound_value, Frame}
use Rattle.handlebars_markup.specs.Alike.{AreAlike}
use Rattle.handlebars_markup.proofs.Alikeness.{AreAlikeOptions, AreAlikeLists, AreAlikeAnswers, AreAlikeFound, AreAlikeResolutions, AreAlikeBound, AreAlikeFrames}
use Rattle.handlebars_markup.proofs.Values.{or_else-alike, if-alike, slice_get-alike, option_map-alike, with_or-alike, answer_map-alike, member_at-alike, value_at-alike}

-- ---- the longest prefix

-- the prefixes have equally many names, and the values are equal up to texts
abbrev AreAlikeHits : ℕ × Data → ℕ × Data → Type 0
AreAlikeHits x y = (x.0 ≡ y.0) × AreAlike x.1 y.1

if_any-alike : (a b : Answer (Option Data)) → AreAlikeAnswers (AreAlikeOptions AreAlike) a b
    → AreAlikeOptions AreAlike (if_any a) (if_any b)
if_any-alike (gives x) (gives y) h = h
if_any-alike (fails r) (fails q) h = tt
if_any-alike a b h = absurd h

count_one_name-alike : (o q : Option (ℕ × Data)) → AreAlikeOptions AreAlikeHits o q
    → AreAlikeOptions AreAlikeHits (count_one_name o) (count_one_name q)
count_one_name-alike None None h = tt
count_one_name-alike (Some x) (Some y) h = (ap (λ n. n + 1) h.0, h.1)
count_one_name-alike o q h = absurd h

option_and_then-alike : (o q : Option Data) (f g : Data → Option (ℕ × Data)) → AreAlikeOptions AreAlike o q
    → ((d e : Data) → AreAlike d e → AreAlikeOptions AreAlikeHits (f d) (g e))
    → AreAlikeOptions AreAlikeHits (option_and_then f o) (option_and_then g q)
option_and_then-alike None None f g h k = tt
option_and_then-alike (Some d) (Some e) f g h k = k d e h
option_and_then-alike o q f g h k = absurd h

-- the name itself, under no other one
hit-alike : (d e : Data) (name : Text) → AreAlike d e
    → AreAlikeOptions AreAlikeHits (option_map (λ x. (0, x)) (if_any (member_at d name)))
    (option_map (λ x. (0, x)) (if_any (member_at e name)))
hit-alike d e name h = option_map-alike AreAlike AreAlikeHits (if_any (member_at d name)) (if_any (member_at e name))
    (λ x. (0, x)) (λ y. (0, y)) (if_any-alike (member_at d name) (member_at e name) (member_at-alike d e name h))
    (λ x y k. (refl, k))

longest-alike : (ns : List Text) (d e : Data) (name : Text) → AreAlike d e
    → AreAlikeOptions AreAlikeHits (longest d ns name) (longest e ns name)
longest-alike [] d e name h = hit-alike d e name h
longest-alike (n ∷ ns) d e name h =
    or_else-alike AreAlikeHits (option_and_then (λ x. count_one_name (longest x ns name)) (if_any (member_at d n)))
    (option_and_then (λ x. count_one_name (longest x ns name)) (if_any (member_at e n)))
    (option_map (λ x. (0, x)) (if_any (member_at d name))) (option_map (λ x. (0, x)) (if_any (member_at e name)))
    (option_and_then-alike (if_any (member_at d n)) (if_any (member_at e n)) (λ x. count_one_name (longest x ns name))
    (λ x. count_one_name (longest x ns name)) (if_any-alike (member_at d n) (member_at e n) (member_at-alike d e n h))
    (λ x y k. count_one_name-alike (longest x ns name) (longest y ns name) (longest-alike ns x y name k)))
    (hit-alike d e name h)

-- ---- at the end of a resolution

found_along-alike : (ns : List Text) (o q : Option Data) → AreAlikeOptions AreAlike o q
    → AreAlikeFound (found_along ns o) (found_along ns q)
found_along-alike ns None None h = tt
found_along-alike ns (Some d) (Some e) h = (h, refl)
found_along-alike ns o q h = absurd h

found_within-alike : (o q : Option Data) → AreAlikeOptions AreAlike o q → AreAlikeFound (found_within o) (found_within q)
found_within-alike None None h = tt
found_within-alike (Some d) (Some e) h = h
found_within-alike o q h = absurd h

found_prefix-alike : (base : List Text) (name : Text) (o q : Option (ℕ × Data)) → AreAlikeOptions AreAlikeHits o q
    → AreAlikeFound (found_prefix base name o) (found_prefix base name q)
found_prefix-alike base name None None h = tt
found_prefix-alike base name (Some x) (Some y) h = (h.1, ap (λ n. take n base ++ name ∷ []) h.0)
found_prefix-alike base name o q h = absurd h

found_by-alike : (x y : Resolution) (d e : Data) → AreAlikeResolutions x y → AreAlike d e
    → AreAlikeAnswers AreAlikeFound (found_by x d) (found_by y e)
found_by-alike (in_block_value x ns) (in_block_value y ms) d e h k =
    subst (λ (z : List Text). AreAlikeAnswers AreAlikeFound (answer_map found_within (value_at x ns))
    (answer_map found_within (value_at y z))) h.1
    (answer_map-alike (AreAlikeOptions AreAlike) AreAlikeFound (value_at x ns) (value_at y ns) found_within found_within
    (value_at-alike ns x y h.0) found_within-alike)
found_by-alike (along ns) (along ms) d e h k =
    subst (λ (z : List Text). AreAlikeAnswers AreAlikeFound (answer_map (found_along ns) (value_at d ns))
    (answer_map (found_along z) (value_at e z))) h
    (answer_map-alike (AreAlikeOptions AreAlike) AreAlikeFound (value_at d ns) (value_at e ns) (found_along ns)
    (found_along ns) (value_at-alike ns d e k) (found_along-alike ns))
found_by-alike (under_prefix base n) (under_prefix other m) d e h k =
    subst (λ (z : List Text). AreAlikeFound (found_prefix base n (longest d base n)) (found_prefix z m (longest e z m))) h.0
    (subst (λ (z : Text). AreAlikeFound (found_prefix base n (longest d base n)) (found_prefix base z (longest e base z))) h.1
    (found_prefix-alike base n (longest d base n) (longest e base n) (longest-alike base d e n k)))
found_by-alike x y d e h k = absurd h

-- ---- resolutions

resolution_of_bound-alike : (ns ms : List Text) (b c : Bound) (rest : List Segment) → ns ≡ ms → AreAlikeBound b c
    → AreAlikeResolutions (resolution_of_bound ns b rest) (resolution_of_bound ms c rest)
resolution_of_bound-alike ns ms (bound_path p) (bound_path q) rest is h = λ i. is i ++ (h i ++ names_of rest)
resolution_of_bound-alike ns ms (bound_value d) (bound_value e) rest is h = (h, refl)
resolution_of_bound-alike ns ms b c rest is h = absurd h

resolution_of_name-alike : (fs gs : List Frame) (n : Text) (rest : List Segment) → AreAlikeLists AreAlikeFrames fs gs
    → AreAlikeOptions AreAlikeResolutions (resolution_of_name fs n rest) (resolution_of_name gs n rest)
resolution_of_name-alike [] [] n rest h = tt
resolution_of_name-alike (f ∷ fs) (g ∷ gs) n rest h =
    or_else-alike AreAlikeResolutions (option_map (λ b. resolution_of_bound f.base_path b rest) (f.bound n))
    (option_map (λ b. resolution_of_bound g.base_path b rest) (g.bound n)) (resolution_of_name fs n rest) (resolution_of_name gs n rest)
    (option_map-alike AreAlikeBound AreAlikeResolutions (f.bound n) (g.bound n) (λ b. resolution_of_bound f.base_path b rest)
    (λ b. resolution_of_bound g.base_path b rest) (h.0.bound n)
    (λ b c k. resolution_of_bound-alike f.base_path g.base_path b c rest h.0.base_path k))
    (resolution_of_name-alike fs gs n rest h.1)
resolution_of_name-alike fs gs n rest h = absurd h

bound_resolution-alike : (fs gs : List Frame) (segments : List Segment) → AreAlikeLists AreAlikeFrames fs gs
    → AreAlikeOptions AreAlikeResolutions (bound_resolution fs segments) (bound_resolution gs segments)
bound_resolution-alike fs gs [] h = tt
bound_resolution-alike fs gs (named n ∷ rest) h = resolution_of_name-alike fs gs n rest h
bound_resolution-alike fs gs (root ∷ rest) h = tt
bound_resolution-alike fs gs (local ∷ rest) h = tt
bound_resolution-alike fs gs (up ∷ rest) h = tt

resolution_from-alike : (recursive : Bool) (ns ms : List Text) (segments : List Segment) (o : Option Text) → ns ≡ ms
    → AreAlikeResolutions (resolution_from recursive ns segments o) (resolution_from recursive ms segments o)
resolution_from-alike true ns ms segments (Some name) is = (is, refl)
resolution_from-alike true ns ms segments None is = ap (λ z. z ++ names_of segments) is
resolution_from-alike false ns ms segments o is = ap (λ z. z ++ names_of segments) is

resolution_in-alike : (recursive : Bool) (f g : Frame) (segments : List Segment) → AreAlikeFrames f g
    → AreAlikeResolutions (resolution_in recursive f segments) (resolution_in recursive g segments)
resolution_in-alike recursive f g segments h =
    with_or-alike AreAlike AreAlikeResolutions f.base_value g.base_value (λ d. in_block_value d (names_of segments))
    (λ d. in_block_value d (names_of segments)) (resolution_from recursive f.base_path segments (single_plain_name segments))
    (resolution_from recursive g.base_path segments (single_plain_name segments)) h.base_value (λ d e k. (k, refl))
    (resolution_from-alike recursive f.base_path g.base_path segments (single_plain_name segments) h.base_path)

module _ (fs gs : List Frame) (h : AreAlikeLists AreAlikeFrames fs gs) where
  frame_up-alike : (n : ℕ) → AreAlikeOptions AreAlikeFrames (frame_up fs n) (frame_up gs n)
  frame_up-alike n = or_else-alike AreAlikeFrames (slice_get fs n) (slice_get gs n) (slice_get fs 0) (slice_get gs 0)
      (slice_get-alike AreAlikeFrames fs gs n h) (slice_get-alike AreAlikeFrames fs gs 0 h)

  unbound_resolution-alike : (recursive : Bool) (segments : List Segment)
      → AreAlikeResolutions (unbound_resolution recursive fs segments) (unbound_resolution recursive gs segments)
  unbound_resolution-alike recursive segments =
      let rooted = along (names_of segments) in
      let n = ups_in segments in
      if-alike AreAlikeResolutions (is_from_root segments) rooted (with_or (frame_up fs n) (λ f. resolution_in recursive f segments) rooted)
      rooted (with_or (frame_up gs n) (λ g. resolution_in recursive g segments) rooted) refl
      (with_or-alike AreAlikeFrames AreAlikeResolutions (frame_up fs n) (frame_up gs n) (λ f. resolution_in recursive f segments)
      (λ g. resolution_in recursive g segments) rooted rooted (frame_up-alike n)
      (λ f g k. resolution_in-alike recursive f g segments k) refl)

  resolution_of-alike : (recursive : Bool) (segments : List Segment)
      → AreAlikeResolutions (resolution_of recursive fs segments) (resolution_of recursive gs segments)
  resolution_of-alike recursive segments =
      with_or-alike AreAlikeResolutions AreAlikeResolutions (bound_resolution fs (after_ups segments)) (bound_resolution gs (after_ups segments))
      (λ x. x) (λ y. y) (unbound_resolution recursive fs segments) (unbound_resolution recursive gs segments)
      (bound_resolution-alike fs gs (after_ups segments) h) (λ x y k. k) (unbound_resolution-alike recursive segments)

  variable-alike : (o q : Option Frame) (name : Text) → AreAlikeOptions AreAlikeFrames o q
      → AreAlikeOptions AreAlike (option_and_then (λ f. f.variable name) o) (option_and_then (λ g. g.variable name) q)
  variable-alike None None name k = tt
  variable-alike (Some f) (Some g) name k = k.variable name
  variable-alike o q name k = absurd k

  pub resolve-alike : (recursive : Bool) (r : Reference) (d e : Data) → AreAlike d e
      → AreAlikeAnswers AreAlikeFound (resolve recursive fs r d) (resolve recursive gs r e)
  resolve-alike recursive (relative segments text) d e k =
      found_by-alike (resolution_of recursive fs segments) (resolution_of recursive gs segments) d e (resolution_of-alike recursive segments) k
  resolve-alike recursive (variable level name text) d e k =
      found_within-alike (variable_at fs level name) (variable_at gs level name)
      (variable-alike (slice_get fs level) (slice_get gs level) name (slice_get-alike AreAlikeFrames fs gs level h))
