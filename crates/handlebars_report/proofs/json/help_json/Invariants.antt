use Rattle.std.proofs.Common.{◌≡◌, map, string_bytes, take}
use Rattle.serde_json.specs.Data.{string}
use Rattle.serde_json.specs.View.{view}
use Rattle.handlebars_report.proofs.json.help_json.Given as goal

abbrev pub invariant-help : goal.invariant-help
invariant-help l = map view l.texts.items ≡ map string (map string_bytes (take l.text-index l.help))
