-- Reading a path from left to right, and the length of a reference, as functions on lists.
use Rattle.std.specs.Prelude.{ℕ, zero, suc, ◌+◌, Bool, true, false, ◌&&◌, ◌||◌, ◌==◌, nat_lt, if◌then◌else◌, List, [], ◌∷◌, ◌++◌, length, take, drop, Option, Some, None, is_some, codes}
use Rattle.std.specs.List.{prefix_len, position_or_len, before_first, after_first}
use Rattle.std.specs.Str.{bytes_eq}
use Rattle.std.specs.Option.{option_map}
use Rattle.handlebars_base.specs.Bytes.{Text, dot, slash, at_sign, left_bracket, right_bracket, is_symbol}
use Rattle.handlebars_base.specs.Optional.{◌>>=◌, with_or}
use Rattle.handlebars_base.specs.Texts.{after_byte, symbols_of, after_symbols}
use Rattle.handlebars_base.specs.Path.{Segment, root, Reference, relative, variable, raw_of, PathPart, dots, plain, bracketed, is_dots, Link, Shape, itself, at_root, at_name, in_parts, part_segments, link_segments, meaning}

-- ---- marks

abbrev pub is_up_mark : ℕ → ℕ → ℕ → Bool
is_up_mark a b c = (a == dot) && ((b == dot) && (c == slash))

-- what follows `../`
unfoldable pub after_up : Text → Option Text
after_up (a ∷ b ∷ c ∷ r) = if is_up_mark a b c then Some r else None
after_up _ = None

-- n plus the number of `../` at the start, and what follows them
unfoldable pub ups_at : ℕ → Text → ℕ × Text
ups_at n (a ∷ b ∷ c ∷ r) = if is_up_mark a b c then ups_at (n + 1) r else (n, a ∷ b ∷ c ∷ r)
ups_at n t = (n, t)

-- ---- parts and links, each with the text after it

-- a name in brackets, read after the opening bracket
unfoldable pub bracketed_at : Text → Option (PathPart × Text)
bracketed_at t =
    if nat_lt (position_or_len (λ b. b == right_bracket) t) (length t)
    then Some (bracketed (before_first (λ b. b == right_bracket) t), after_first (λ b. b == right_bracket) t)
    else None

-- the longest identifier at the start
unfoldable pub plain_at : Text → Option (PathPart × Text)
plain_at t = if prefix_len is_symbol t == 0 then None else Some (plain (symbols_of t), after_symbols t)

-- After one `.` only a second one makes a part.
unfoldable pub part_at : Text → Option (PathPart × Text)
part_at t =
    with_or (after_byte dot t) (λ r. after_byte dot r >>= λ r. Some (dots, r))
    (with_or (after_byte left_bracket t) bracketed_at (plain_at t))

abbrev pub link_by : ℕ → PathPart × Text → Link × Text
link_by sep p = (record { sep = sep; part = p.0 }, p.1)

-- A link after a part, which is `..` or not. A `.` doesn't join `..` to anything.
unfoldable pub link_at : Bool → Text → Option (Link × Text)
link_at before t =
    with_or (after_byte slash t) (λ r. part_at r >>= λ p. Some (link_by slash p))
    (after_byte dot t >>= λ r. part_at r >>= λ p. if before || is_dots p.0 then None else Some (link_by dot p))

abbrev pub part_of_link : Link × Text → PathPart × Text
part_of_link q = (q.0.part, q.1)

-- a link before those that were read after it
abbrev pub with_link : Link → List Link × Text → List Link × Text
with_link s q = (s ∷ q.0, q.1)

-- as many links as fit, at most this number, and what follows them
unfoldable pub links_at : ℕ → Bool → Text → List Link × Text
links_at zero before t = ([], t)
links_at (suc n) before t =
    with_or (link_at before t) (λ q. with_link q.0 (links_at n (is_dots q.0.part) q.1)) ([], t)

-- Each link takes at least one byte, so the length of the text bounds their number.
unfoldable pub links_of : Bool → Text → List Link × Text
links_of before t = links_at (length t) before t

-- ---- where a path starts

-- at this value, by `.` alone; at the root; at a variable this many blocks up; or at a part
pub data Start : Type 0 where
  here : Start
  from_root : Start
  from_variable : ℕ → Text → Start
  from_part : PathPart → Start

abbrev pub named_start : ℕ → Text → Start
named_start level name = if (level == 0) && bytes_eq name (codes "root") then from_root else from_variable level name

-- a name after an `@`, given as the number of `../` and the text after them
unfoldable pub at_sign_start : ℕ × Text → Option (Start × Text)
at_sign_start u =
    if bytes_eq (symbols_of u.1) [] || bytes_eq (symbols_of u.1) (codes "this")
    then None
    else Some (named_start u.0 (symbols_of u.1), after_symbols u.1)

abbrev pub part_start : PathPart × Text → Option (Start × Text)
part_start p = Some (from_part p.0, p.1)

-- A path with no `@`. A `.` that doesn't begin `..` is followed by a `/` and a part, or it is the whole path.
unfoldable pub start_without_at_sign : Text → Option (Start × Text)
start_without_at_sign t =
    with_or (part_at t) part_start
    (after_byte dot t >>= λ r. with_or (after_byte slash r) (λ r. part_at r >>= part_start) (Some (here, r)))

unfoldable pub start_at : Text → Option (Start × Text)
start_at t = with_or (after_byte at_sign t) (λ r. at_sign_start (ups_at 0 r)) (start_without_at_sign t)

-- ---- whole paths

-- the links after a start, and what follows them
abbrev pub links_after : Start → Text → List Link × Text
links_after here t = ([], t)
links_after from_root t = links_of false t
links_after (from_variable level name) t = links_of false t
links_after (from_part p) t = links_of (is_dots p) t

-- whether `./` is at the start
abbrev pub is_dotted : Text → Bool
is_dotted t = is_some (after_byte dot t >>= after_byte slash)

abbrev pub shape_from : Bool → Start → List Link → Shape
shape_from dotted here ss = itself
shape_from dotted from_root ss = at_root ss
shape_from dotted (from_variable level name) ss = at_name level name ss
shape_from dotted (from_part p) ss = in_parts dotted p ss

-- the segments of a start and its links: a variable has none
abbrev pub start_segments : Start → List Link → List Segment
start_segments here ss = []
start_segments from_root ss = root ∷ link_segments ss
start_segments (from_variable level name) ss = []
start_segments (from_part p) ss = part_segments p ++ link_segments ss

abbrev pub start_meaning : Text → Start → List Segment → Reference
start_meaning text here segments = relative segments text
start_meaning text from_root segments = relative segments text
start_meaning text (from_variable level name) segments = variable level name text
start_meaning text (from_part p) segments = relative segments text

-- the shape at the start of a text, with as many links as fit, and what follows it
unfoldable pub shape_at : Text → Option (Shape × Text)
shape_at t = start_at t >>= λ s.
    Some (shape_from (is_dotted t) s.0 (links_after s.0 s.1).0, (links_after s.0 s.1).1)

-- the path that the whole text is
unfoldable pub shape_of : Text → Option Shape
shape_of t = shape_at t >>= λ s. if length s.1 == 0 then Some s.0 else None

abbrev pub path_of : Text → Option Reference
path_of t = option_map (meaning t) (shape_of t)

-- ---- the length of a reference

-- a byte that occurs in a path outside brackets: a symbol, `.`, `/` or `@`
abbrev pub is_reference_byte : ℕ → Bool
is_reference_byte b = is_symbol b || (b == dot || (b == slash || b == at_sign))

-- one more, unless it is zero
abbrev pub increment_nonzero : ℕ → ℕ
increment_nonzero zero = zero
increment_nonzero (suc n) = suc (suc n)

-- the number of bytes by which a reference continues from here, inside brackets or not; brackets that are never closed
-- count nothing
unfoldable pub reference_from : Bool → Text → ℕ
reference_from within [] = 0
reference_from true (x ∷ xs) =
    if x == right_bracket then suc (reference_from false xs) else increment_nonzero (reference_from true xs)
reference_from false (x ∷ xs) =
    if x == left_bracket
    then increment_nonzero (reference_from true xs)
    else if is_reference_byte x then suc (reference_from false xs) else 0

-- the length of the longest prefix of reference bytes and of names in brackets, each closed
abbrev pub reference_len : Text → ℕ
reference_len text = reference_from false text

-- The path that the longest prefix of reference bytes and closed brackets spells, if it is one, and what follows it.
unfoldable pub path_at : Text → Option (Reference × Text)
path_at t = path_of (take (reference_len t) t) >>= λ means. Some (means, drop (reference_len t) t)

-- the text of that path, and what follows it
abbrev pub path_token_at : Text → Option (Text × Text)
path_token_at t = option_map (λ p. (raw_of p.0, p.1)) (path_at t)
