-- What holds of every escaped text.
use Rattle.std.specs.List.{filter}
use Rattle.std.specs.Prelude.{◌≡◌, ℕ, Bool, false, ◌||◌, ◌==◌, [], ◌∷◌, ◌++◌, Contains, codes, Some}
use Rattle.handlebars_base.specs.Bytes.{Text, ampersand}
use Rattle.handlebars_base.specs.Escape.{entity_of, escaped}

-- a text may be escaped in parts
abbrev pub Joins : Type 0
Joins = (xs ys : Text) → escaped (xs ++ ys) ≡ escaped xs ++ escaped ys

-- two different texts never have the same escaped text
abbrev pub IsInjective : Type 0
IsInjective = (xs ys : Text) → escaped xs ≡ escaped ys → xs ≡ ys

-- the characters that have a special meaning in HTML, except `&`: < > " ' ` =
abbrev pub marks : Text
marks = codes "<>\"'`="

-- whether a byte is one of these
abbrev pub is_among : Text → ℕ → Bool
is_among [] b = false
is_among (m ∷ ms) b = (m == b) || is_among ms b

-- whether a byte is one of `<`, `>`, `"`, `'`, the backquote and `=`
abbrev pub is_mark : ℕ → Bool
is_mark = is_among marks

-- the marks of a text, in order
abbrev pub marks_in : Text → Text
marks_in = filter is_mark

-- an escaped text contains none of the marks
abbrev pub IsUnmarked : Type 0
IsUnmarked = (xs : Text) (mark : ℕ) → Contains marks mark → ¬ Contains (escaped xs) mark

-- a text that begins with one of the seven entities
pub record BeginsEntity (text : Text) : Type 0 where
  pub byte : ℕ
  pub entity : Text
  pub rest : Text
  pub is_entity : entity_of byte ≡ Some entity
  pub is : text ≡ entity ++ rest

-- each `&` in an escaped text begins an entity
abbrev pub BeginsEntities : Type 0
BeginsEntities = (xs prefix rest : Text) → escaped xs ≡ prefix ++ ampersand ∷ rest → BeginsEntity (ampersand ∷ rest)
