use Rattle.std.proofs.Common.{◌-◌, length, map}
use Rattle.handlebars_includes.specs.View.{name_of}
use Rattle.handlebars_report.specs.View.{note_view}
use Rattle.hb_check.proofs.Chained.{Continues}
use Rattle.hb_check.proofs.chains.chain_to.Given as goal

abbrev pub invariant-steps : goal.invariant-steps
invariant-steps l =
    Continues l.sources (map name_of l.templates) l.chains.ways.items (length l.templates) l.index (map note_view l.notes.items)
    (length l.templates - l._step) l.at
