use Rattle.std.proofs.Common.{◌∙◌, sym}
use Rattle.std.specs.Prelude.{codes}
use Rattle.handlebars_lexer.proofs.Comments.{HasNoLong-end, IsComment-compact, inside-end, no_end-searched}
use Rattle.handlebars_lexer.proofs.Marks.{after_mark-cut}
use Rattle.handlebars_lexer.proofs.comment.compact_comment.Goals as goal
use Rattle.handlebars_lexer.proofs.comment.compact_comment.Goals.{then-long_ahead, else-long_ahead}

pub before-requires : goal.before-requires
before-requires c = inside-end c.args.source.now c.args.inside.now c.in-Some.rest.now c.requires.begins (after_mark-cut (codes "}}") c.args.inside.now c.in-Some.rest.now (sym c.in-Some.ensures))

pub returns-after-long_ahead-clause-comment : goal.returns-after-long_ahead-clause-comment
returns-after-long_ahead-clause-comment c =
    rw c.compact_text.ensures (IsComment-compact c.args.source.now c.args.inside.now c.before-in-Some.result.now c.in-Some.rest.now c.requires.begins c.before-in-Some.ensures c.requires.none (sym c.in-Some.ensures))

pub returns-after-long_ahead-clause-still : goal.returns-after-long_ahead-clause-still
returns-after-long_ahead-clause-still c = elim c.if-long_ahead.branch [
  | then-long_ahead w ↦ λ e. no_end-searched c.args.inside.now c.in-Some.rest.now w.after_dashes.result w.is_none.result w.after_dashes.ensures w.is_none.ensures (sym w.result-is ∙ e) c.requires.none (sym c.in-Some.ensures)
  | else-long_ahead w ↦ λ e. HasNoLong-end c.args.long_ahead c.args.inside.now c.in-Some.rest.now (after_mark-cut (codes "}}") c.args.inside.now c.in-Some.rest.now (sym c.in-Some.ensures)) c.requires.ahead w.if-long_ahead.false
]
