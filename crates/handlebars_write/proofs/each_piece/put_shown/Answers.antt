use Rattle.handlebars_base.specs.Shown.{escaped_if}
use Rattle.handlebars_write.proofs.Puts.{puts-no_memory}
use Rattle.handlebars_write.proofs.each_piece.put_shown.Goals as goal

pub returns-then-not-entities-clause-puts : goal.returns-then-not-entities-clause-puts
returns-then-not-entities-clause-puts g c = rw c.if-not-entities.true (rw c.value_kind.ensures at c.put.ensures.puts)

pub returns-in-Ok-clause-puts : goal.returns-in-Ok-clause-puts
returns-in-Ok-clause-puts g c = rw c.if-not-entities.false
    (rw (c.value_kind-in-Ok.ensures, c.as_str.ensures.value, c.in-Ok.ensures) at c.put-in-Ok.ensures.puts)

pub returns-in-Err-clause-puts : goal.returns-in-Err-clause-puts
returns-in-Err-clause-puts g c = λ o is s indent same. puts-no_memory _ o (escaped_if c.args.entities c.args.text.now) s _ _
