use Rattle.std.proofs.Common.{◌∙◌, ap}
use Rattle.std.specs.Prelude.{codes}
use Rattle.handlebars_lexer.specs.Kind.{after_text}
use Rattle.handlebars_lexer.proofs.Marks.{after_text-stripped}
use Rattle.handlebars_lexer.proofs.comment.after_dashes.Goals as goal

pub returns : goal.returns
returns c = after_text-stripped (codes "--") c.after_white.result.now c.strip_prefix.result c.strip_prefix.ensures.cases ∙ ap (after_text (codes "--")) c.after_white.ensures
