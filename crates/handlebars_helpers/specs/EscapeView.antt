-- What the code's kinds of escaping stand for.
use Rattle.std.specs.Prelude.{◌≡◌}
use Rattle.handlebars_base.specs.Answers.{Answer, gives}
use Rattle.handlebars_base.specs.Bytes.{Text}
use Rattle.handlebars_base.specs.Escape.{escaped}
use Rattle.handlebars_helpers.specs.Escaping as plain
use Rattle.handlebars_helpers.specs.Escaping.{UserEscape, for_html, for_plain, by_user}
use Rattle.handlebars_helpers.specs.declared.escape.EscapeKindOf.{EscapeKindOf}
use Rattle.handlebars_helpers.specs.declared.escape.EscapeKindOf.TheVariants as kind
use Rattle.handlebars_helpers.specs.declared.escape.Escaping.{Escaping}
use Rattle.handlebars_helpers.specs.declared.escape.Escaping.TheVariants.{Html, Plain, User}

abbrev pub escaping_of : Escaping → plain.Escaping
escaping_of Html = for_html
escaping_of Plain = for_plain
escaping_of User = by_user

module _ {X : Type 0} where
  -- how the registered kind escapes
  abbrev pub kind_escaping : EscapeKindOf X → plain.Escaping
  kind_escaping kind.Html = for_html
  kind_escaping kind.Plain = for_plain
  kind_escaping (kind.Own e) = by_user

  -- The answers for a text, given what stored user-defined functions answer. For html and for plain text they are fixed.
  module _ (has_escaped : X → Text → Answer Text → Type 0) where
    abbrev pub user_escape_of : EscapeKindOf X → UserEscape
    user_escape_of kind.Html t a = a ≡ gives (escaped t)
    user_escape_of kind.Plain t a = a ≡ gives t
    user_escape_of (kind.Own e) t a = has_escaped e t a
