use Rattle.std.proofs.Common.{◌∙◌, ap, sym}
use Rattle.handlebars_layers.specs.Chain.{block_bound, kind_bound}
use Rattle.handlebars_layers.specs.LayerView.{names_seen, kind_view}
use Rattle.handlebars_layers.proofs.layer.LayerKind.bound.Goals as goal

pub returns-in-Iteration : goal.returns-in-Iteration
returns-in-Iteration c = λ b is.
    c.block_bound.ensures
    ∙ (λ i. block_bound (names_seen c.in-Iteration.names.now) (is i) (c.iteration_key.ensures c.in-Iteration.last i) c.args.name.now)
    ∙ sym (ap (λ o. kind_bound (kind_view o) b c.args.name.now) c.in-Iteration.is)
