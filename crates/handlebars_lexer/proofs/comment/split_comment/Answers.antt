use Rattle.std.proofs.Common.{drop, sym, ◌∙◌, ap}
use Rattle.handlebars_lexer.specs.Comment.{after_long}
use Rattle.handlebars_lexer.proofs.Comments.{begins-boundary, long-end, HasNoLong-end, IsComment-long}
use Rattle.handlebars_lexer.proofs.comment.split_comment.Goals as goal

pub split_at-requires : goal.split_at-requires
split_at-requires c = begins-boundary c.args.source.now c.utf8.source c.requires.begins

pub before-requires : goal.before-requires
before-requires c = long-end c.args.source.now c.in-Some.rest.now c.requires.begins (ap after_long (sym c.split_at.ensures.back) ∙ sym c.in-Some.ensures)

pub returns-in-Some-clause-comment : goal.returns-in-Some-clause-comment
returns-in-Some-clause-comment c =
    let s = c.args.source.now in
    rw c.long_text.ensures (IsComment-long s (drop 3 s) c.before-in-Some.result.now c.in-Some.rest.now c.requires.begins c.before-in-Some.ensures (ap after_long (sym c.split_at.ensures.back) ∙ sym c.in-Some.ensures))

pub returns-in-Some-clause-still : goal.returns-in-Some-clause-still
returns-in-Some-clause-still c =
    HasNoLong-end c.args.long_ahead c.args.source.now c.in-Some.rest.now (long-end c.args.source.now c.in-Some.rest.now c.requires.begins (ap after_long (sym c.split_at.ensures.back) ∙ sym c.in-Some.ensures)) c.requires.ahead
