use Rattle.std.proofs.Common.{true, sym, ◌∙◌}
use Rattle.handlebars_lexer.specs.KindView.{beginning_view}
use Rattle.handlebars_lexer.proofs.Beginnings.{begun}
use Rattle.handlebars_lexer.proofs.Comments.{HasNoLong-end}
use Rattle.handlebars_lexer.proofs.Tags.{none-beginning, none-inside, end-inside, tag_read}
use Rattle.handlebars_lexer.proofs.tag.split_tag.Goals as goal
use Rattle.handlebars_lexer.proofs.tag.split_tag.Goals.{then-long_ahead, else-long_ahead}

pub returns-in_default-clause-reads : goal.returns-in_default-clause-reads
returns-in_default-clause-reads c = none-beginning true c.args.left.now (sym c.in_default.ensures)

pub read_inside-requires-clause-comment : goal.read_inside-requires-clause-comment
read_inside-requires-clause-comment c = (begun c.args.left.now (beginning_view c.in-Some.begins) (sym c.in-Some.ensures)).comment

pub returns-in-None-clause-reads : goal.returns-in-None-clause-reads
returns-in-None-clause-reads c =
    none-inside c.args.left.now (beginning_view c.in-Some.begins) (sym c.in-Some.ensures) (rw c.in-None.is at c.in_ok-read.ensures.reads)

pub returns-after-long_ahead-clause-reads : goal.returns-after-long_ahead-clause-reads
returns-after-long_ahead-clause-reads c =
    tag_read c.args.left.now (beginning_view c.in-Some.begins) c.in-Some-2.read c.if-long_ahead.result (sym c.in-Some.ensures)
    (rw c.in-Some-2.is at c.in_ok-read.ensures.reads)

pub returns-after-long_ahead-clause-ahead : goal.returns-after-long_ahead-clause-ahead
returns-after-long_ahead-clause-ahead c =
    let read = c.in-Some-2.read in
    let inside = rw c.in-Some-2.is at c.in_ok-read.ensures.reads in
    let end = end-inside c.args.left.now (beginning_view c.in-Some.begins) read (sym c.in-Some.ensures) inside in
    elim c.if-long_ahead.branch [
      | then-long_ahead w ↦ λ none. rw c.in-Some-2.is at c.in_ok-read.ensures.ahead (sym w.result-is ∙ none)
      | else-long_ahead w ↦ λ none. HasNoLong-end c.args.long_ahead c.args.left.now read.rest.now end c.requires w.if-long_ahead.false
    ]
