use Rattle.handlebars_helpers.proofs.decorators.entry.BoxDynDecoratorDefDecoratorPart.satisfies_law.Goals as goal

pub returns : goal.returns
returns g c = λ b. (g.dyn-1-met b.vtable).0.one_actions b.value
