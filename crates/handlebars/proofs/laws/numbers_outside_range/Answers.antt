use Rattle.handlebars_laws.proofs.Counted.{renders_counted, judges_counted, equals_counted, compares_counted, walks_counted}
use Rattle.handlebars.proofs.laws.numbers_outside_range.Goals as goal

pub returns : goal.returns
returns c = record {
  rendered = renders_counted;
  judged = judges_counted;
  equal = equals_counted;
  compared = compares_counted;
  walked = walks_counted;
}
