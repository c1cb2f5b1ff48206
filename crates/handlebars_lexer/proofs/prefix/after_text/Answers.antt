use Rattle.handlebars_lexer.proofs.Marks.{after_text-stripped}
use Rattle.handlebars_lexer.proofs.prefix.after_text.Goals as goal

pub returns : goal.returns
returns c = after_text-stripped c.args.mark.now c.args.text.now c.strip_prefix.result c.strip_prefix.ensures.cases
