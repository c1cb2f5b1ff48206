use Rattle.std.proofs.Common.{◌≡◌, drop, map}
use Rattle.handlebars_includes.specs.Graph.{index_among, index_of}
use Rattle.handlebars_includes.specs.View.{name_of}
use Rattle.hb_check.proofs.unused.index_of.Given as goal

-- What was found, with what is left, is what is found of all.
abbrev pub invariant-templates : goal.invariant-templates
invariant-templates l =
    index_among l.index (drop l.index (map name_of l.templates)) l.name l.found ≡ index_of (map name_of l.templates) l.name
