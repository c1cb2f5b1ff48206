use Rattle.std.proofs.Common.{ap, rules, ◌∙◌}
use denote.Ref.{Bor}
use Rattle.handlebars_scope.specs.Contexts.{data_of}
use Rattle.handlebars_scope.specs.declared.context.Context.{Context}
use Rattle.handlebars_layers.specs.LayerView.{chain_of}
use Rattle.handlebars_layers.specs.declared.layer.Layer.{Layer}
use Rattle.handlebars_write.specs.declared.location.IterationsAround.{the_lemmas}
use Rattle.handlebars_entry.proofs.evaluating.eval_over.Goals as goal

pub returns-clause-evals : goal.returns-clause-evals
returns-clause-evals g c = c.eval_from.ensures.evals c.args.blocks.now.items (data_of c.args.given.now) (record {
  given = ap (λ (x : Bor Context). data_of x.now) c.outside-innermost.ensures.given;
  nearest = ap (λ (l : Bor Layer). chain_of l.now) c.outside-innermost.ensures.nearest ∙ c.outside-frames.ensures;
  iterations = search (rules, the_lemmas);
})
