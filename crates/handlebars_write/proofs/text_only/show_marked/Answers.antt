use Rattle.std.proofs.Common.{◌∙◌, true}
use Rattle.handlebars_base.specs.Escape.{escaped}
use Rattle.handlebars_scope.specs.LineView.{line_of}
use Rattle.handlebars_write.proofs.Puts.{after-if, plain-at, text_failed, text_put}
use Rattle.handlebars_write.proofs.text_only.show_marked.Goals as goal

pub returns-in-Done-clause-puts : goal.returns-in-Done-clause-puts
returns-in-Done-clause-puts g c = λ s indent same.
    let t = escaped c.args.text.now in
    let line = line_of c.args.line.now in
    text_put _ t s line (line_of c.after.result) same (c.after.ensures ∙ after-if true c.args.text.now line)
    (plain-at s t indent) c.in-Done.ensures.writes

pub returns-in_default-clause-puts : goal.returns-in_default-clause-puts
returns-in_default-clause-puts g c = λ s indent same.
    let t = escaped c.args.text.now in
    text_failed _ t s _ c.escape_as_is.result c.in_default.not-Done (plain-at s t indent) c.escape_as_is.ensures.writes
