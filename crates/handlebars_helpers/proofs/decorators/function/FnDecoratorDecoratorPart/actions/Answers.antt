use Rattle.std.proofs.Common.{Err, refl}
use Rattle.handlebars_helpers.proofs.Failed.{failed-says}
use Rattle.handlebars_helpers.proofs.decorators.function.FnDecoratorDecoratorPart.actions.Goals as goal

pub returns-in-Err : goal.returns-in-Err
returns-in-Err g c = λ fed. record {
  view = c.args.d;
  given = c.args.given;
  changed = _;
  strict = c.args.strict;
  result = Err c.in-Err.refusal;
  asks = refl;
  has = c.in-Err.ensures;
  says = failed-says c.in-Err.refusal c.into.result c.into.ensures fed;
}
