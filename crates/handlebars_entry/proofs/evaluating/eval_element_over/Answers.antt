use Rattle.std.proofs.Common.{ap, rules, ◌∙◌}
use denote.Ref.{Bor}
use Rattle.handlebars_scope.specs.Contexts.{data_of}
use Rattle.handlebars_scope.specs.declared.context.Context.{Context}
use Rattle.handlebars_layers.specs.LayerView.{chain_of}
use Rattle.handlebars_layers.specs.declared.layer.Layer.{Layer}
use Rattle.handlebars_write.specs.declared.location.IterationsAround.{the_lemmas}
use Rattle.handlebars_entry.proofs.evaluating.eval_element_over.Goals as goal

pub returns-clause-does : goal.returns-clause-does
returns-clause-does g c = c.eval_element_from.ensures.does c.args.blocks.now.items (data_of c.args.given.now) (record {
  given = ap (λ (x : Bor Context). data_of x.now) c.outside-innermost.ensures.given;
  nearest = ap (λ (l : Bor Layer). chain_of l.now) c.outside-innermost.ensures.nearest ∙ c.outside-frames.ensures;
  iterations = search (rules, the_lemmas);
})
