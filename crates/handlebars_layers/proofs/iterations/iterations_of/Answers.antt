use Rattle.serde_json.specs.View.{view}
use Rattle.handlebars_layers.proofs.Members.{all-keyed}
use Rattle.handlebars_layers.proofs.iterations.iterations_of.Goals as goal

pub returns-in-Array-clause-keyed : goal.returns-in-Array-clause-keyed
returns-in-Array-clause-keyed c = all-keyed (view c.args.value.now)

pub returns-in-Object-clause-keyed : goal.returns-in-Object-clause-keyed
returns-in-Object-clause-keyed c = all-keyed (view c.args.value.now)
