-- Laws of paths.
use Rattle.std.specs.Prelude.{◌≡◌, ◌↔◌, ◌++◌, Some}
use Rattle.handlebars_base.specs.Bytes.{Text}
use Rattle.handlebars_base.specs.Path.{Reference, raw_of, IsPath}
use Rattle.handlebars_base.specs.PathReading.{reference_len, path_at}

-- a text has at most one meaning as a path
abbrev pub OneMeaning : Type 0
OneMeaning = (text : Text) (a b : Reference) → IsPath text a → IsPath text b → a ≡ b

-- The text is the text of a path, followed by a rest in which no reference continues.
pub record IsPathPrefix (text : Text) (means : Reference) (rest : Text) : Type 0 where
  pub whole : text ≡ raw_of means ++ rest
  pub path : IsPath (raw_of means) means
  pub ends : reference_len rest ≡ 0

-- exactly such a path is found at the start of a text
abbrev pub PathPrefixes : Type 0
PathPrefixes = (text : Text) (means : Reference) (rest : Text) →
    (path_at text ≡ Some (means, rest)) ↔ IsPathPrefix text means rest
