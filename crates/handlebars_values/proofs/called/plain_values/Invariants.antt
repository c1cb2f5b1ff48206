use Rattle.std.proofs.Common.{◌≡◌, ◌++◌, drop, map}
use Rattle.serde_json.specs.View.{view}
use Rattle.handlebars_values.specs.ParamView.{argument_view}
use Rattle.handlebars_helpers.specs.CallView.{plain_value}
use Rattle.handlebars_values.proofs.called.plain_values.Given as goal

abbrev pub invariant-constants : goal.invariant-constants
invariant-constants l =
    map argument_view l.values.items ++ map plain_value (map view (drop l.constant-index l.constants))
    ≡ map plain_value (map view l.constants)
