use Rattle.std.proofs.Common.{drop, map}
use Rattle.handlebars_includes.specs.FrameView.{hidden_of}
use Rattle.handlebars_includes.specs.Hidden.{hidden_from}
use Rattle.handlebars_includes.specs.View.{tree_of}
use Rattle.handlebars_includes.proofs.Adding.{Accumulates}
use Rattle.handlebars_includes.proofs.hidden.hidden_names.Given as goal

abbrev pub invariant-templates : goal.invariant-templates
invariant-templates l =
    Accumulates hidden_of l.initial.names.items l.names.items (hidden_from l.index (map tree_of (drop l.index l.templates)))
    (hidden_from 0 (map tree_of l.templates))
