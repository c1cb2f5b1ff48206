use Rattle.serde_json.specs.View.{view}
use Rattle.handlebars_base.specs.Shown.{shown}
use Rattle.handlebars_scope.specs.LineView.{line_of}
use Rattle.handlebars_write.proofs.Puts.{plain-at, text_failed, text_put}
use Rattle.handlebars_write.proofs.text_only.show_other.Goals as goal

pub returns-in-Done-clause-puts : goal.returns-in-Done-clause-puts
returns-in-Done-clause-puts g c = λ s indent same.
    let t = shown c.args.entities (view c.args.value.now) in
    text_put _ t s (line_of c.args.line.now) (line_of c.after_value.result) same (c.after_value.ensures c.args.entities)
    (plain-at s t indent) c.in-Done.ensures.writes

pub returns-in_default-clause-puts : goal.returns-in_default-clause-puts
returns-in_default-clause-puts g c = λ s indent same.
    let t = shown c.args.entities (view c.args.value.now) in
    text_failed _ t s _ c.show_as_is.result c.in_default.not-Done (plain-at s t indent) c.show_as_is.ensures.writes
