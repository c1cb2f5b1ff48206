use Rattle.handlebars_layers.proofs.Layering.{iteration_layer-first, iteration_layer-next}
use Rattle.handlebars_layers.proofs.laws.iterations_have_their_frame.Goals as goal

pub returns-clause-first : goal.returns-clause-first
returns-clause-first c = iteration_layer-first

pub returns-clause-next : goal.returns-clause-next
returns-clause-next c = iteration_layer-next
