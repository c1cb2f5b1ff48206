use Rattle.serde_json.specs.View.{view}
use Rattle.handlebars_base.specs.Shown.{shown}
use Rattle.handlebars_base.proofs.ShownValues.{rendered-string}
use Rattle.handlebars_write.proofs.Puts.{puts-no_memory}
use Rattle.handlebars_write.proofs.each_piece.EachPieceOutputMode.put_value.Goals as goal

pub returns-in-String-clause-puts : goal.returns-in-String-clause-puts
returns-in-String-clause-puts g c = rw (rendered-string c.args.value.now c.in-String.text c.in-String.is)
    (rw c.as_str.ensures.value at c.put_shown.ensures.puts)

pub returns-in-Ok-clause-puts : goal.returns-in-Ok-clause-puts
returns-in-Ok-clause-puts g c = rw (c.as_str-in-Ok.ensures.value, c.in-Ok.ensures) at c.put_shown-in-Ok.ensures.puts

pub returns-in-Err-clause-puts : goal.returns-in-Err-clause-puts
returns-in-Err-clause-puts g c = λ o is s indent same. puts-no_memory _ o (shown c.args.entities (view c.args.value.now)) s _ _
