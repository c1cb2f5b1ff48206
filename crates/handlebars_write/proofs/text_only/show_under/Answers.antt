use Rattle.serde_json.specs.View.{view}
use Rattle.handlebars_base.specs.Shown.{shown}
use Rattle.handlebars_base.proofs.ShownValues.{rendered-string}
use Rattle.handlebars_write.proofs.Puts.{text-no_memory}
use Rattle.handlebars_write.proofs.text_only.show_under.Goals as goal

pub returns-in-String-clause-puts : goal.returns-in-String-clause-puts
returns-in-String-clause-puts g c = λ s indent same. rw (rendered-string c.args.value.now c.in-String.text c.in-String.is)
    (rw c.as_str.ensures.value at (c.put_under.ensures.puts s indent same))

pub returns-in-Ok-clause-puts : goal.returns-in-Ok-clause-puts
returns-in-Ok-clause-puts g c = λ s indent same.
    rw (c.as_str-in-Ok.ensures.value, c.in-Ok.ensures) at (c.put_under-in-Ok.ensures.puts s indent same)

pub returns-in-Err-clause-puts : goal.returns-in-Err-clause-puts
returns-in-Err-clause-puts g c = λ s indent same. text-no_memory _ (shown c.args.entities (view c.args.value.now)) s s _
