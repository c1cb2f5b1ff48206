-- The options that a `TemplateOptions` stands for.
use Rattle.std.specs.Prelude.{true, option_map, string_bytes}
use Rattle.handlebars_lexer.specs.Options.{Options}
use Rattle.handlebars_template.specs.declared.template.compile.TemplateOptions.{TemplateOptions}

-- The program always reads the language with sections.
abbrev pub options_view : TemplateOptions → Options
options_view options = record {
  name = option_map string_bytes options.name;
  prevent_indent = options.prevent_indent;
  sections = true;
}
