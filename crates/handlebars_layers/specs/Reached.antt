-- The names that lead to a value of the data.
use Rattle.std.specs.Prelude.{List}
use Rattle.handlebars_base.specs.Bytes.{Text}
use Rattle.handlebars_layers.specs.Destination.{names_found}
use Rattle.handlebars_layers.specs.Sought.{sought}
use Rattle.handlebars_layers.specs.declared.reached.Reached.{Reached}

abbrev pub reached_names : Reached → List Text
reached_names r = names_found (sought r.recursive r.innermost.now r.path.now)
