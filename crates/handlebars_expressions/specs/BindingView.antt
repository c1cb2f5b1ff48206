-- What block parameters that the program reads stand for.
use Rattle.handlebars_expressions.specs.Binding.{BoundNames, unbound, bound, both_bound}
use Rattle.handlebars_expressions.specs.declared.binding.BoundNames.{BoundNames as ReadBinding}
use Rattle.handlebars_expressions.specs.declared.binding.BoundNames.TheVariants.{Unbound, Bound, BothBound}

abbrev pub bound_names_of : ReadBinding → BoundNames
bound_names_of Unbound = unbound
bound_names_of (Bound name) = bound name.now
bound_names_of (BothBound name other) = both_bound name.now other.now
