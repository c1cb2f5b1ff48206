use Rattle.std.proofs.Common.{◌≡◌, false, map, take}
use Rattle.handlebars_includes.proofs.reach.no_marks.Given as goal

abbrev pub invariant-graph : goal.invariant-graph
invariant-graph l = l.marks.items ≡ map (λ _. false) (take l._inclusions-index l.graph)
