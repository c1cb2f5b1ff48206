-- How a text is read chunk by chunk. Only the code's own contracts cite this.
use Rattle.std.specs.Prelude.{◌≡◌, ℕ, suc, Bool, false, [], ◌∷◌, ◌++◌, if◌then◌else◌}
use Rattle.handlebars_base.specs.Bytes.{Text}
use Rattle.handlebars_lexer.specs.Text.{Braces, IsText, is_backslash, before_braces}

-- how many bytes precede the next braces and the backslashes directly before these
abbrev pub clear_len : Braces → Text → ℕ
clear_len w [] = 0
clear_len w (b ∷ t) = if before_braces w (b ∷ t) then 0 else suc (clear_len w t)

abbrev pub ends_with_backslash : Text → Bool
ends_with_backslash [] = false
ends_with_backslash (b ∷ []) = is_backslash b
ends_with_backslash (b ∷ c ∷ t) = ends_with_backslash (c ∷ t)

-- The prefix that was taken is unescaped to this, whatever text continues it in the rest.
pub record GoesOn (w : Braces) (source unescaped rest : Text) : Type 0 where
  pub taken : Text
  pub whole : source ≡ taken ++ rest
  pub on : (follows token more : Text) → rest ≡ token ++ follows → IsText w follows token more
      → IsText w follows (taken ++ token) (unescaped ++ more)

-- The prefix that was taken is the end of the text.
pub record Ends (w : Braces) (source unescaped rest : Text) : Type 0 where
  pub taken : Text
  pub whole : source ≡ taken ++ rest
  pub ends : IsText w rest taken unescaped
