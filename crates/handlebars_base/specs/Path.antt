-- The grammar of paths, over the bytes of a text, and what a path means. Each mark is one ASCII byte, and each byte
-- of another character is a symbol, so reading bytes gives the same as reading characters.
use Rattle.std.specs.Prelude.{◌≡◌, ◌≢◌, ℕ, zero, suc, Bool, true, false, not, ◌&&◌, ◌||◌, ◌==◌, if◌then◌else◌, List, [], ◌∷◌, ◌++◌, codes, ⊤}
use Rattle.std.specs.List.{AllByRecursion}
use Rattle.std.specs.Str.{bytes_eq}
use Rattle.handlebars_base.specs.Bytes.{Text, dot, slash, at_sign, left_bracket, right_bracket, is_symbol}

-- ---- what a path means

-- a name to look up, the root of the data, this block, or the block around
pub data Segment : Type 0 where
  named : Text → Segment
  root : Segment
  local : Segment
  up : Segment

-- A path through the data, given by its segments; or a variable, given by its name and the number of blocks up. Both
-- include the text as written.
pub data Reference : Type 0 where
  relative : List Segment → Text → Reference
  variable : ℕ → Text → Text → Reference

-- the text as written
abbrev pub raw_of : Reference → Text
raw_of (relative segments text) = text
raw_of (variable level name text) = text

-- ---- symbols and parts

-- a run of symbols, at least one
abbrev pub IsIdentifier : Text → Type 0
IsIdentifier n = (n ≢ []) × AllByRecursion (λ b. is_symbol b ≡ true) n

-- `..`, an identifier, or a name in brackets
pub data PathPart : Type 0 where
  dots : PathPart
  plain : Text → PathPart
  bracketed : Text → PathPart

abbrev pub spelled_part : PathPart → Text
spelled_part dots = codes ".."
spelled_part (plain n) = n
spelled_part (bracketed n) = left_bracket ∷ (n ++ right_bracket ∷ [])

-- a name in brackets contains no closing bracket
abbrev pub IsPathPart : PathPart → Type 0
IsPathPart dots = ⊤
IsPathPart (plain n) = IsIdentifier n
IsPathPart (bracketed n) = AllByRecursion (λ b. not (b == right_bracket) ≡ true) n

abbrev pub is_dots : PathPart → Bool
is_dots dots = true
is_dots (plain n) = false
is_dots (bracketed n) = false

-- ---- links

-- a separator, and the part after it
pub record Link : Type 0 where
  pub sep : ℕ
  pub part : PathPart

abbrev pub spelled_links : List Link → Text
spelled_links [] = []
spelled_links (s ∷ ss) = s.sep ∷ (spelled_part s.part ++ spelled_links ss)

-- `/` joins any two parts, and `.` two of which neither is `..`
abbrev pub joins : Bool → ℕ → Bool → Bool
joins before sep after = (sep == slash) || ((sep == dot) && (not before && not after))

-- links after a part, which is `..` or not
abbrev pub AreLinks : Bool → List Link → Type 0
AreLinks before [] = ⊤
AreLinks before (s ∷ ss) =
    (joins before s.sep (is_dots s.part) ≡ true) × IsPathPart s.part × AreLinks (is_dots s.part) ss

-- ---- whole paths

-- `.` alone; `@root` and links; `@`, a number of `../`, a name and links; or a part and links, with or without `./`
-- before them
pub data Shape : Type 0 where
  itself : Shape
  at_root : List Link → Shape
  at_name : ℕ → Text → List Link → Shape
  in_parts : Bool → PathPart → List Link → Shape

-- this many `../`
abbrev pub ups : ℕ → Text
ups zero = []
ups (suc n) = dot ∷ dot ∷ slash ∷ ups n

abbrev pub spelled_path : Shape → Text
spelled_path itself = dot ∷ []
spelled_path (at_root ss) = at_sign ∷ (codes "root" ++ spelled_links ss)
spelled_path (at_name n name ss) = at_sign ∷ (ups n ++ (name ++ spelled_links ss))
spelled_path (in_parts true p ss) = dot ∷ slash ∷ (spelled_part p ++ spelled_links ss)
spelled_path (in_parts false p ss) = spelled_part p ++ spelled_links ss

-- A variable isn't named `this`. Directly after the `@` it isn't named `root` either, since `@root` is the root.
abbrev pub IsShape : Shape → Type 0
IsShape itself = ⊤
IsShape (at_root ss) = AreLinks false ss
IsShape (at_name zero name ss) =
    IsIdentifier name × (bytes_eq name (codes "this") ≡ false) × (bytes_eq name (codes "root") ≡ false) ×
    AreLinks false ss
IsShape (at_name (suc n) name ss) = IsIdentifier name × (bytes_eq name (codes "this") ≡ false) × AreLinks false ss
IsShape (in_parts b p ss) = IsPathPart p × AreLinks (is_dots p) ss

-- ---- from the shape to the meaning

-- the name `this` adds no segment, with or without brackets
abbrev pub name_segments : Text → List Segment
name_segments n = if bytes_eq n (codes "this") then [] else named n ∷ []

abbrev pub part_segments : PathPart → List Segment
part_segments dots = up ∷ []
part_segments (plain n) = name_segments n
part_segments (bracketed n) = name_segments n

abbrev pub link_segments : List Link → List Segment
link_segments [] = []
link_segments (s ∷ ss) = part_segments s.part ++ link_segments ss

-- The links after a variable's name add nothing.
abbrev pub meaning : Text → Shape → Reference
meaning text itself = relative [] text
meaning text (at_root ss) = relative (root ∷ link_segments ss) text
meaning text (at_name n name ss) = variable n name text
meaning text (in_parts b p ss) = relative (part_segments p ++ link_segments ss) text

-- the text is a path that means this
pub record IsPath (text : Text) (means : Reference) : Type 0 where
  pub shape : Shape
  pub fits : IsShape shape
  pub spells : text ≡ spelled_path shape
  pub gives : means ≡ meaning text shape
