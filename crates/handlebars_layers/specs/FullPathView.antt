-- The names of a full path in the code.
use Rattle.std.specs.Prelude.{List}
use Rattle.handlebars_base.specs.Bytes.{Text}
use Rattle.handlebars_scope.specs.ResolutionView.{names_in}
use Rattle.handlebars_layers.specs.Reached.{reached_names}
use Rattle.handlebars_layers.specs.declared.full_path.FullPath.{FullPath}
use Rattle.handlebars_layers.specs.declared.full_path.PathNames.{PathNames}
use Rattle.handlebars_layers.specs.declared.full_path.PathNames.TheVariants as given

abbrev names_given : PathNames → List Text
names_given (given.Listed names) = names_in names.now
names_given (given.Reached reached) = reached_names reached

-- from the data to its value
abbrev pub names_on : FullPath → List Text
names_on path = names_given path.names
