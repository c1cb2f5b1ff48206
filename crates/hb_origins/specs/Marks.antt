-- Which pieces bring marks of html into the output.
use Rattle.std.specs.List.{list_any}
use Rattle.std.specs.Prelude.{Bool, true, false, ◌&&◌}
use Rattle.handlebars_base.specs.Bytes.{Text}
use Rattle.handlebars_base.specs.EscapeLaws.{is_mark}
use Rattle.handlebars_semantics.specs.Emitted.{Kind, template_text, indentation, escaped_value, raw_value, helper_boolean, user_text}

-- Whether the text of a piece of this kind comes from data or from a user-defined helper. Template texts and indentations come
-- from templates, and a boolean text is `true` or `false`.
abbrev pub may_bring : Kind → Bool
may_bring template_text = false
may_bring indentation = false
may_bring escaped_value = true
may_bring raw_value = true
may_bring helper_boolean = false
may_bring user_text = true

-- whether a piece brings in a mark: its text comes from data or such a helper, and has a mark
abbrev pub brings_mark : Kind → Text → Bool
brings_mark kind text = may_bring kind && list_any is_mark text
