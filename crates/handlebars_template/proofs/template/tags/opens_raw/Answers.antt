use Rattle.std.proofs.Common.{refl}
use Rattle.handlebars_lexer.specs.Trim.{opens_raw}
use Rattle.handlebars_template.proofs.TagsBuilt.{never-path}
use Rattle.handlebars_template.proofs.template.tags.opens_raw.Goals as goal

pub returns-in-Path : goal.returns-in-Path
returns-in-Path c tag holds = never-path opens_raw (λ expression. refl) (λ expression. refl) c.in-Path.field-0 tag (rw c.in-Path.is at holds)
