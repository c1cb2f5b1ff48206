use Rattle.std.proofs.Common.{ap}
use Rattle.handlebars_base.specs.Answers.{gives}
use Rattle.handlebars_base.specs.Bytes.{Text}
use Rattle.handlebars_template.proofs.Levels.{param_view-Subexpression}
use Rattle.handlebars_semantics.specs.Asks.{first_fails, goes_on}
use Rattle.handlebars_entry.proofs.expand.expand_as_name.Goals as goal

pub returns-in_ok-render-in-Ok-clause-value : goal.returns-in_ok-render-in-Ok-clause-value
returns-in_ok-render-in-Ok-clause-value g c = rw (c.in-Subexpression.is, param_view-Subexpression)
    (goes_on c.in-Ok.ensures.value (ap (λ (n : Text). gives n) c.in_ok-render-in-Ok.ensures))

pub returns-in-Err-clause-value : goal.returns-in-Err-clause-value
returns-in-Err-clause-value g c = λ other. rw (c.in-Subexpression.is, param_view-Subexpression) (first_fails (c.in-Err.ensures.value other))
