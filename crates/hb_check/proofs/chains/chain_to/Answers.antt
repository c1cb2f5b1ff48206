use Rattle.std.proofs.Common.{◌∷◌, [], arith, ap, length, map, sym, ◌∙◌}
use Rattle.std.proofs.lemmas.List.{map-append}
use Rattle.handlebars_includes.specs.View.{name_of}
use Rattle.handlebars_report.specs.View.{note_view}
use Rattle.hb_check.proofs.Chained.{continues-all, continues-ends, continues-first, continues-next}
use Rattle.hb_check.proofs.chains.chain_to.Goals as goal

pub steps-init : goal.steps-init
steps-init c =
    continues-first c.args.sources.now (map name_of c.args.templates.now) c.args.chains.now.ways.items (length c.args.templates.now)
    c.args.index (map note_view c.new-notes.result.items) _ (omega arith) (ap (map note_view) c.new-notes.ensures.items)

pub steps-preserved : goal.steps-preserved
steps-preserved c =
    continues-next c.args.sources.now (map name_of c.args.templates.now) c.args.chains.now.ways.items (length c.args.templates.now)
    c.args.index (map note_view c.steps.notes.items) _ _ _ c.steps.at c.in-Some.includer (note_view c.in_ok-note_of-in-Some.field-0)
    (omega (arith, c.steps-test.true)) (sym c.in-Some.ensures) c.in_ok-note_of-in-Some.ensures
    (ap (map note_view) c.in_ok-push-in-Some.ensures.items ∙ map-append note_view c.steps.notes.items (c.in_ok-note_of-in-Some.field-0 ∷ []))
    c.steps.invariant

pub returns : goal.returns
returns c =
    continues-all c.args.sources.now (map name_of c.args.templates.now) c.args.chains.now.ways.items (length c.args.templates.now)
    c.args.index (map note_view c.steps.notes.items) _ c.steps.at (omega (arith, c.steps-test.false)) c.steps.invariant

pub returns-in-None : goal.returns-in-None
returns-in-None c =
    continues-ends c.args.sources.now (map name_of c.args.templates.now) c.args.chains.now.ways.items (length c.args.templates.now)
    c.args.index (map note_view c.steps.notes.items) _ c.steps.at (sym c.in-None.ensures) c.steps.invariant
