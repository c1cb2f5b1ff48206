-- Expressions with a path alone, or with one path after a name.
use Rattle.std.specs.Prelude.{◌≡◌, ◌≢◌, ℕ, Bool, false, ◌||◌, ◌==◌, [], ◌++◌}
use Rattle.handlebars_base.specs.Bytes.{Text, dot, slash, at_sign, left_bracket}
use Rattle.handlebars_base.specs.Path.{IsIdentifier, Reference, IsPath}
use Rattle.handlebars_base.specs.Texts.{IsWhite}
use Rattle.handlebars_expressions.specs.Parameter.{path_shape, is_reserved, IsChosen}
use Rattle.handlebars_expressions.specs.Expression.{Enclosure, Closes}

-- a mark with which a path may continue after a name
abbrev pub is_path_mark : ℕ → Bool
is_path_mark b = b == dot || (b == slash || (b == at_sign || b == left_bracket))

-- The text begins with a path, and what is left ends its expression.
pub record IsAlone (around : Enclosure) (text raw left : Text) : Type 0 where
  pub means : Reference
  pub whole : text ≡ raw ++ left
  pub is_path : IsPath raw means
  pub closes : Closes around left

-- The text begins with a name, whitespace and a path that is a parameter there, and what is left ends their expression.
pub record IsNamed (around : Enclosure) (text name raw left : Text) : Type 0 where
  pub white : Text
  pub means : Reference
  pub whole : text ≡ name ++ (white ++ (raw ++ left))
  pub is_name : IsIdentifier name
  pub is_white : IsWhite white
  pub some_white : white ≢ []
  pub is_free : is_reserved raw ≡ false
  pub is_chosen : IsChosen (path_shape raw means) left
  pub is_path : IsPath raw means
  pub closes : Closes around left
