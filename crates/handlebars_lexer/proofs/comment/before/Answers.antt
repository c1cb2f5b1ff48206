use Rattle.handlebars_base.proofs.Ends.{IsCharBoundary-end}
use Rattle.handlebars_lexer.proofs.comment.before.Goals as goal

pub split_at-requires : goal.split_at-requires
split_at-requires c = IsCharBoundary-end c.args.source.now c.args.rest.now c.utf8.rest c.requires
