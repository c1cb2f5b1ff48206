-- Escaping for HTML: seven characters, each of one byte, are replaced by entities.
use Rattle.std.specs.Prelude.{◌≡◌, ℕ, ◌≤◌, [], ◌∷◌, ◌++◌, ◌==◌, if◌then◌else◌, codes, length, take, Option, Some, None, unwrap_or}
use Rattle.handlebars_base.specs.Bytes.{Text, less_than_sign, greater_than_sign, double_quote, ampersand, single_quote, backquote, equals_sign}

abbrev pub entity_of : ℕ → Option Text
entity_of b =
    if b == less_than_sign then Some (codes "&lt;") else (
    if b == greater_than_sign then Some (codes "&gt;") else (
    if b == double_quote then Some (codes "&quot;") else (
    if b == ampersand then Some (codes "&amp;") else (
    if b == single_quote then Some (codes "&#x27;") else (
    if b == backquote then Some (codes "&#x60;") else (
    if b == equals_sign then Some (codes "&#x3D;") else None))))))

-- a byte with no entity is unchanged
abbrev pub escaped_byte : ℕ → Text
escaped_byte b = unwrap_or (entity_of b) (b ∷ [])

-- a text is escaped byte by byte
unfoldable pub escaped : Text → Text
escaped [] = []
escaped (b ∷ bs) = escaped_byte b ++ escaped bs

-- escaping leaves this many bytes at the start of the text unchanged
pub record NeedsNoEscape (text : Text) (count : ℕ) : Type 0 where
  pub within : count ≤ length text
  pub plain : escaped (take count text) ≡ take count text
