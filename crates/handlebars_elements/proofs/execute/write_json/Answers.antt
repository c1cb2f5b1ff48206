use Rattle.std.proofs.Common.{refl, sym}
use Rattle.serde_json.specs.View.{view}
use Rattle.handlebars_base.specs.Scoped.{value}
use Rattle.handlebars_values.specs.View.{state_with}
use Rattle.handlebars_elements.proofs.execute.write_json.Goals as goal

pub returns-clause-writes : goal.returns-clause-writes
returns-clause-writes g c = λ occurrence location captured.
    c.write_value.ensures.shows occurrence location.location (value (view c.args.json.now)) refl (λ on. refl) _
    (state_with captured c.args.run.now) (sym location.indent) refl refl
