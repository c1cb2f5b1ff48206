use Rattle.std.proofs.Common.{◌∙◌}
use Rattle.handlebars_base.specs.Shown.{escaped_if}
use Rattle.handlebars_scope.specs.LineView.{line_of}
use Rattle.handlebars_write.proofs.Puts.{after-if, text_failed, text_put, under-at}
use Rattle.handlebars_write.proofs.text_only.put_under.Goals as goal

pub returns-in-Done-clause-puts : goal.returns-in-Done-clause-puts
returns-in-Done-clause-puts g c = λ s indent same.
    let t = escaped_if c.args.entities c.args.text.now in
    let line = line_of c.args.line.now in
    text_put _ t s line (line_of c.after.result) same (c.after.ensures ∙ after-if c.args.entities c.args.text.now line)
    (under-at s t c.args.indent.now line indent same) c.in-Done.ensures.writes

pub returns-in_default-clause-puts : goal.returns-in_default-clause-puts
returns-in_default-clause-puts g c = λ s indent same.
    let t = escaped_if c.args.entities c.args.text.now in
    text_failed _ t s _ c.write_indented.result c.in_default.not-Done
    (under-at s t c.args.indent.now (line_of c.args.line.now) indent same) c.write_indented.ensures.writes
