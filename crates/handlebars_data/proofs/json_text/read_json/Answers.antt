use Rattle.serde_json.specs.View.{view}
use Rattle.handlebars_data.proofs.SpelledOut.{has_no_float}
use Rattle.handlebars_data.proofs.json_text.read_json.Goals as goal

pub returns-in-Ok-clause-no_float : goal.returns-in-Ok-clause-no_float
returns-in-Ok-clause-no_float c = has_no_float c.args.numbers c.args.text.now (view c.in-Ok.value) c.in-Ok.ensures.ok
