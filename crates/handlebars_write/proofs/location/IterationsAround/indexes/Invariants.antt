use Rattle.std.proofs.Common.{◌≡◌, ◌++◌, reverse}
use Rattle.handlebars_write.specs.LocationView.{indexes_of}
use Rattle.handlebars_write.proofs.location.IterationsAround.indexes.Given as goal

-- the indexes of the iterations that are left, and those after them, which stand in reverse
abbrev pub invariant-outwards : goal.invariant-outwards
invariant-outwards l = indexes_of l.around ++ reverse l.indexes.items ≡ indexes_of l.self
