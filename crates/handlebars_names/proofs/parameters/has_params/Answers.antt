use Rattle.handlebars_names.proofs.Counts.{has_params-length}
use Rattle.handlebars_names.proofs.parameters.has_params.Goals as goal

pub returns : goal.returns
returns c = has_params-length c.args.needed c.args.params.now
