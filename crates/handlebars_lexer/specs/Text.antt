-- What a text of a source is, and what it is unescaped to. Texts go up to the first braces that aren't escaped: two, or in a
-- raw block four.
use Rattle.std.specs.Prelude.{◌≡◌, ◌≢◌, ℕ, ◌-◌, Bool, true, false, ◌&&◌, ◌==◌, [], ◌∷◌, ◌++◌, drop, replicate}
use Rattle.std.specs.List.{prefix_len, list_any}
use Rattle.handlebars_base.specs.Bytes.{Text, backslash, left_brace}

abbrev pub is_backslash : ℕ → Bool
is_backslash b = b == backslash

-- how many backslashes are at the start
abbrev pub backslashes : Text → ℕ
backslashes t = prefix_len is_backslash t

-- how many opening braces begin a tag
pub data Braces : Type 0 where
  two_braces : Braces
  four_braces : Braces

-- two opening braces are at the start
abbrev pub starts_with_two : Text → Bool
starts_with_two [] = false
starts_with_two (a ∷ []) = false
starts_with_two (a ∷ b ∷ t) = (a == left_brace) && (b == left_brace)

-- this many opening braces are at the start
abbrev pub braces : Braces → Text → Bool
braces two_braces t = starts_with_two t
braces four_braces t = starts_with_two t && starts_with_two (drop 2 t)

-- zero or more backslashes are at the start, directly before braces
abbrev pub before_braces : Braces → Text → Bool
before_braces n t = braces n (drop (backslashes t) t)

-- IsText n follows token unescaped: if the bytes `follows` come after it, the token is a whole text, and it is unescaped to
-- this.
pub data IsText (n : Braces) (follows : Text) : Text → Text → Type 0 where
  -- the source ends
  at_end : follows ≡ [] → IsText n follows [] []
  -- A tag begins. Backslashes right before it, if any, are two or more, and the first of them is dropped.
  at_tag : (run : ℕ) → braces n follows ≡ true → run ≢ 1
      → IsText n follows (replicate run backslash) (replicate (run - 1) backslash)
  -- a byte with which no tag and no escape begins
  a_byte : {token unescaped : Text} → (b : ℕ) → before_braces n (b ∷ (token ++ follows)) ≡ false
      → IsText n follows token unescaped → IsText n follows (b ∷ token) (b ∷ unescaped)
  -- One backslash escapes the braces after it, four if four are there, and is dropped.
  two_escaped : {token unescaped : Text} → n ≡ two_braces → starts_with_two (token ++ follows) ≡ false
      → IsText n follows token unescaped
      → IsText n follows (backslash ∷ left_brace ∷ left_brace ∷ token) (left_brace ∷ left_brace ∷ unescaped)
  four_escaped : {token unescaped : Text} → IsText n follows token unescaped
      → IsText n follows
      (backslash ∷ left_brace ∷ left_brace ∷ left_brace ∷ left_brace ∷ token)
      (left_brace ∷ left_brace ∷ left_brace ∷ left_brace ∷ unescaped)

-- At most one text is at the start of a source, up to this many braces.
abbrev pub OneText : Type 0
OneText = (n : Braces) (source token token' follows follows' unescaped unescaped' : Text)
    → source ≡ token ++ follows → source ≡ token' ++ follows'
    → IsText n follows token unescaped → IsText n follows' token' unescaped' → (token ≡ token') × (follows ≡ follows') × (unescaped ≡ unescaped')

-- In a text without backslashes no braces begin.
abbrev pub ClearText : Type 0
ClearText = (n : Braces) (follows token unescaped a b : Text)
    → IsText n follows token unescaped → list_any is_backslash token ≡ false → token ≡ a ++ b → b ≢ [] → braces n (b ++ follows) ≡ false
