-- How the text of a value is escaped before it is written.
use Rattle.std.specs.Prelude.{◌≡◌}
use Rattle.handlebars_base.specs.Answers.{Answer, gives}
use Rattle.handlebars_base.specs.Bytes.{Text}
use Rattle.handlebars_base.specs.Escape.{escaped}

-- for html, with its entities; for plain text, not at all; or by a user-defined escape function
pub data Escaping : Type 0 where
  for_html : Escaping
  for_plain : Escaping
  by_user : Escaping

-- An escape function: the answers that it has for a text.
abbrev pub UserEscape : Type 1
UserEscape = Text → Answer Text → Type 0

-- the answers for a text; the user-defined function's, if it is the one that escapes
abbrev pub HasEscaped : Escaping → UserEscape → Text → Answer Text → Type 0
HasEscaped for_html user t a = a ≡ gives (escaped t)
HasEscaped for_plain user t a = a ≡ gives t
HasEscaped by_user user t a = user t a

-- the answers if no user-defined function is registered; it is never called then
abbrev pub no_user_escape : UserEscape
no_user_escape t a = a ≡ gives t
