use Rattle.handlebars_helpers.proofs.user.entry.BoxDynHelperDefHelperPart.satisfies_law.Goals as goal

pub returns : goal.returns
returns g c = record {
  steps = λ b. (g.dyn-1-met b.vtable).0.one_steps b.value;
  offer = λ b. (g.dyn-1-met b.vtable).0.one_offer b.value;
}
