use Rattle.handlebars_lexer.proofs.Comments.{one_comment}
use Rattle.handlebars_lexer.proofs.laws.one_comment.Goals as goal

pub returns : goal.returns
returns c = one_comment
