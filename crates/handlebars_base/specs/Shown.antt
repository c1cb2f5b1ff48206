-- What a value is written as.
use Rattle.std.specs.Prelude.{Bool, true, false}
use Rattle.serde_json.specs.Data.{Data}
use Rattle.handlebars_base.specs.Bytes.{Text}
use Rattle.handlebars_base.specs.Values.{rendered}
use Rattle.handlebars_base.specs.Escape.{escaped}

-- a text, escaped if escaping is on
abbrev pub escaped_if : Bool → Text → Text
escaped_if true t = escaped t
escaped_if false t = t

-- a value as rendered, escaped if escaping is on
abbrev pub shown : Bool → Data → Text
shown escapes d = escaped_if escapes (rendered d)
