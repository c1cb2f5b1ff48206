use Rattle.std.proofs.Common.{◌∙◌, sym, ap}
use Rattle.handlebars_base.specs.Texts.{starts}
use Rattle.handlebars_lexer.specs.Trim.{is_break}
use Rattle.handlebars_lexer.proofs.Trims.{breaks-after}
use Rattle.handlebars_lexer.proofs.trim.breaks.Goals as goal

pub returns : goal.returns
returns c = c.starts_break.ensures ∙ ap (starts is_break) c.after_blanks.ensures ∙ sym (breaks-after c.args.text.now)
