use Rattle.std.proofs.Common.{ap, false, option_map}
use denote.Ref.{Bor}
use Rattle.std.specs.Prelude.{Option}
use Rattle.handlebars_base.specs.Bytes.{Text}
use Rattle.handlebars_template.specs.TreeView.{element_view}
use Rattle.handlebars_semantics.specs.Means.{render_element}
use Rattle.handlebars_values.specs.View.{within}
use Rattle.handlebars_write.specs.ModeView.{text_mode}
use Rattle.handlebars_write.specs.OutcomeView.{outcome_answer}
use Rattle.handlebars_write.specs.View.{RefinesProg, held_in, moment_at}
use Rattle.handlebars_entry.proofs.OutsideInclusions.{around-parts, captures-outermost, located-outermost, says-outermost, uncaptured}
use Rattle.handlebars_entry.proofs.outermost.render_element_with.Goals as goal

pub returns-clause-renders : goal.returns-clause-renders
returns-clause-renders g c = λ blocks registered d outside inclusion occurrence.
    let x = c.environment_outside-environment.result in
    let w = text_mode g.O.Output.held g.O.Output.may_give in
    let is = c.environment_outside-environment.ensures blocks registered d outside inclusion in
    says-outermost x registered d blocks is g.P.Registered.parts
    (λ p s next. RefinesProg p (render_element occurrence (element_view c.args.element.now)) w.may_give (moment_at s (held_in w c.args.sink.now))
    (outcome_answer c.render_element.result) (moment_at next (held_in w c.render_element.new.sink)))
    c.args.run.now c.render_element.new.run
    (c.render_element.ensures.renders occurrence
    (located-outermost x registered d blocks is _ occurrence (ap (λ (i : Option (Bor Text)). option_map (λ t. t.now) i) inclusion.indent)
    (around-parts _ _ inclusion.template outside.iterations))
    (uncaptured (within x)) (captures-outermost x registered d blocks is false))
