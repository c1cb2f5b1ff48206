use Rattle.std.proofs.Common.{refl}
use Rattle.handlebars_lexer.specs.Trim.{takes_blanks}
use Rattle.handlebars_template.proofs.TagsBuilt.{never-path}
use Rattle.handlebars_template.proofs.template.tags.takes_blanks.Goals as goal

pub returns-in-Path : goal.returns-in-Path
returns-in-Path c tag holds = never-path takes_blanks (λ expression. refl) (λ expression. refl) c.in-Path.field-0 tag (rw c.in-Path.is at holds)
