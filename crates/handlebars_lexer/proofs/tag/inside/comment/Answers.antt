use Rattle.std.proofs.Common.{drop}
use Rattle.handlebars_lexer.proofs.Insides.{none-comment}
use Rattle.handlebars_lexer.proofs.InsidesRead.{comment_read}
use Rattle.handlebars_lexer.proofs.tag.inside.comment.Goals as goal

pub returns-in-Some-clause-reads : goal.returns-in-Some-clause-reads
returns-in-Some-clause-reads c = let token = c.in-Some.token in comment_read (drop 3 c.args.left.now) token.text token.rest token.long_ahead (rw c.in-Some.is at c.split_comment.ensures.comment)

pub returns-in-Some-clause-ahead : goal.returns-in-Some-clause-ahead
returns-in-Some-clause-ahead c = rw c.in-Some.is at c.split_comment.ensures.still

pub returns-in-None-clause-reads : goal.returns-in-None-clause-reads
returns-in-None-clause-reads c = none-comment (drop 3 c.args.left.now) (rw c.in-None.is at c.split_comment.ensures.comment)
