use Rattle.handlebars_entry.proofs.OutsideInclusions.{around-parts, within-parts}
use Rattle.handlebars_entry.proofs.outside.environment_outside.Goals as goal

pub returns : goal.returns
returns g c = λ blocks registered d outside inclusion. record {
  parts = inclusion.parts;
  given = outside.given;
  within = within-parts blocks _ _ _ _ inclusion.captured inclusion.inclusions inclusion.indent outside.nearest;
  around = around-parts _ _ inclusion.template outside.iterations;
}
