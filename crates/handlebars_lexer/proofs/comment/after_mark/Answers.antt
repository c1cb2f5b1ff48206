use Rattle.std.proofs.Common.{sym}
use Rattle.handlebars_lexer.proofs.Marks.{after_mark-split, after_mark-lacks}
use Rattle.handlebars_lexer.proofs.comment.after_mark.Goals as goal

pub returns-in-Some : goal.returns-in-Some
returns-in-Some c = after_mark-split c.args.mark.now c.args.text.now c.in-Some._prefix.now c.in-Some.rest.now c.requires c.in-Some.ensures.cases

pub returns-in-None : goal.returns-in-None
returns-in-None c = sym (after_mark-lacks c.args.mark.now c.args.text.now c.in-None.ensures.cases)
