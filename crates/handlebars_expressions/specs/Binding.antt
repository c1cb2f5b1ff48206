-- Block parameters: one name or two between bars, after `as`.
use Rattle.std.specs.Prelude.{◌≡◌, ◌≢◌, ℕ, Bool, false, if◌then◌else◌, [], ◌∷◌, ◌++◌, codes, Option, None, is_some}
use Rattle.std.specs.Str.{bytes_eq}
use Rattle.handlebars_base.specs.Bytes.{Text, is_white, after_white}
use Rattle.handlebars_base.specs.Path.{IsIdentifier}
use Rattle.handlebars_base.specs.Texts.{IsWhite, starts, after_byte, symbols_of, after_symbols}

abbrev pub bar : ℕ
bar = 124

-- ---- where they begin

-- what follows the word `as`, optional whitespace, and a bar
unfoldable pub after_bar : Text → Option Text
after_bar t =
    if bytes_eq (symbols_of t) (codes "as")
    then after_byte bar (after_white (after_symbols t))
    else None

-- what follows all that begins block parameters: whitespace, at least one byte, `as`, optional whitespace, and a bar
unfoldable pub after_beginning : Text → Option Text
after_beginning t = if starts is_white t then after_bar (after_white t) else None

-- block parameters begin here, whether they are well-formed or not
abbrev pub begins_binding : Text → Bool
begins_binding t = is_some (after_beginning t)

-- ---- the names

-- what a block binds: no name, one, or two
pub data BoundNames : Type 0 where
  unbound : BoundNames
  bound : Text → BoundNames
  both_bound : Text → Text → BoundNames

-- what is between the bars: a name, with optional whitespace on either side of it; or two names, with whitespace between them
-- as well
pub data Names : Type 0 where
  one_name : Text → Text → Text → Names
  two_names : Text → Text → Text → Text → Text → Names

abbrev pub spelled_names : Names → Text
spelled_names (one_name w name v) = w ++ (name ++ v)
spelled_names (two_names w name u other v) = w ++ (name ++ (u ++ (other ++ v)))

-- names are identifiers, and only the whitespace between two names must not be empty
abbrev pub AreNames : Names → Type 0
AreNames (one_name w name v) = IsWhite w × IsIdentifier name × IsWhite v
AreNames (two_names w name u other v) =
    IsWhite w × IsIdentifier name × IsWhite u × (u ≢ []) × IsIdentifier other × IsWhite v

abbrev pub bound_by : Names → BoundNames
bound_by (one_name w name v) = bound name
bound_by (two_names w name u other v) = both_bound name other

-- ---- at the start of a text

-- Whitespace, at least one byte, `as`, optional whitespace, and names between bars that bind this; and then the rest.
pub record IsBound (text : Text) (means : BoundNames) (rest : Text) : Type 0 where
  pub white : Text
  pub between : Text
  pub names : Names
  pub is_white : IsWhite white
  pub some_white : white ≢ []
  pub is_between : IsWhite between
  pub are_names : AreNames names
  pub whole : text ≡ white ++ (codes "as" ++ (between ++ bar ∷ (spelled_names names ++ bar ∷ rest)))
  pub gives : means ≡ bound_by names

-- After the items of an expression come block parameters that bind this, and then the rest. If none begin there, nothing is
-- bound, and the rest is the whole text.
pub data IsBinding (text : Text) (means : BoundNames) (rest : Text) : Type 0 where
  is_unbound : begins_binding text ≡ false → means ≡ unbound → rest ≡ text → IsBinding text means rest
  is_bound : IsBound text means rest → IsBinding text means rest

-- block parameters begin here that are not well-formed
abbrev pub NoBinding : Text → Type 0
NoBinding text = (means : BoundNames) (rest : Text) → IsBinding text means rest → ⊥

-- a text binds in at most one way, with one rest after it
abbrev pub OneBinding : Type 0
OneBinding = (text : Text) (a b : BoundNames) (rest rest' : Text) →
    IsBinding text a rest → IsBinding text b rest' → (a ≡ b) × (rest ≡ rest')
