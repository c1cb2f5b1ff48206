use Rattle.std.proofs.Common.{ap}
use Rattle.handlebars_base.specs.Answers.{gives}
use Rattle.handlebars_base.specs.PathAndData.{PathAndData}
use Rattle.handlebars_semantics.specs.Asks.{first_fails, goes_on}
use Rattle.handlebars_expand.proofs.Values.{written-as}
use Rattle.handlebars_entry.proofs.expand.expand.Goals as goal

pub returns-in_ok-written-in-Ok-clause-value : goal.returns-in_ok-written-in-Ok-clause-value
returns-in_ok-written-in-Ok-clause-value g c =
    goes_on c.in-Ok.ensures.value (ap (λ (d : PathAndData). gives d)
    (written-as _ _ _ _ _ c.new.ensures c.in_ok-written-in-Ok.ensures c.in-Ok.ensures.constant))

pub returns-in-Err-clause-value : goal.returns-in-Err-clause-value
returns-in-Err-clause-value g c = λ other. first_fails (c.in-Err.ensures.value other)
