use Rattle.std.proofs.Common.{false, sym, true≢false}
use Rattle.handlebars_helpers.specs.DecoratorsView.{tag_view}
use Rattle.handlebars_semantics.specs.Including.{include}
use Rattle.handlebars_values.specs.View.{called_view, within}
use Rattle.handlebars_write.specs.ModeView.{text_mode}
use Rattle.handlebars_write.specs.OutcomeView.{outcome_answer}
use Rattle.handlebars_write.specs.View.{RefinesProg, held_in, moment_at}
use Rattle.handlebars_entry.proofs.OutsideInclusions.{captures-outermost, says-outermost, uncaptured}
use Rattle.handlebars_entry.proofs.SameData.{include-same}
use Rattle.handlebars_elements.specs.Left.{part_view}
use Rattle.handlebars_helpers.specs.Decoration.{DecoratorView}
use Rattle.std.specs.Prelude.{option_map}
use Rattle.handlebars_entry.proofs.outermost.include_with.Goals as goal

pub returns-clause-renders : goal.returns-clause-renders
returns-clause-renders g c = λ blocks registered d same outside inclusion occurrence.
    let x = c.environment_outside-environment.result in
    let w = text_mode g.O.Output.held g.O.Output.may_give in
    let is = c.environment_outside-environment.ensures blocks registered d outside inclusion in
    let v : DecoratorView = record {
      call = called_view c.args.call.now;
      body = part_view c.template.result;
      indent = option_map (λ i. i.now) c.indent.result;
    } in
    says-outermost x registered d blocks is g.P.Registered.parts
    (λ p s next. RefinesProg p (include occurrence (tag_view c.args.view.now)) w.may_give (moment_at s (held_in w c.args.sink.now))
    (outcome_answer c.include.result) (moment_at next (held_in w c.include.new.sink)))
    c.args.run.now c.include.new.run
    (rw (sym (include-same occurrence v (tag_view c.args.view.now) same c.template.ensures c.indent.ensures))
    (c.include.ensures.renders occurrence (λ on. absurd (true≢false (sym on))) (uncaptured (within x))
    (captures-outermost x registered d blocks is false)))
