use Rattle.std.proofs.Common.{◌≡◌, map, take}
use Rattle.handlebars_includes.specs.View.{name_of}
use Rattle.hb_check.specs.Several.{indices_of}
use Rattle.hb_check.proofs.unused.indices_of.Given as goal

abbrev pub invariant-names : goal.invariant-names
invariant-names l = l.indices.items ≡ indices_of (map name_of l.templates) (map (λ n. n.now) (take l.name-index l.names))
