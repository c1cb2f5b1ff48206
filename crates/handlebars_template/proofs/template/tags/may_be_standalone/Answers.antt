use Rattle.std.proofs.Common.{refl}
use Rattle.handlebars_lexer.specs.Trim.{may_be_standalone}
use Rattle.handlebars_template.proofs.TagsBuilt.{never-path}
use Rattle.handlebars_template.proofs.template.tags.may_be_standalone.Goals as goal

pub returns-in-Path : goal.returns-in-Path
returns-in-Path c tag holds = never-path may_be_standalone (λ expression. refl) (λ expression. refl) c.in-Path.field-0 tag (rw c.in-Path.is at holds)
