use Rattle.std.proofs.Common.{refl}
use Rattle.handlebars_lexer.specs.Tag.{is_raw_close}
use Rattle.handlebars_template.proofs.TagsBuilt.{never-path}
use Rattle.handlebars_template.proofs.template.tags.closes_raw.Goals as goal

pub returns-in-Path : goal.returns-in-Path
returns-in-Path c tag holds = never-path is_raw_close (λ expression. refl) (λ expression. refl) c.in-Path.field-0 tag (rw c.in-Path.is at holds)
