use Rattle.std.proofs.Common.{sym, ◌∙◌}
use Rattle.handlebars_scope.proofs.Indents.{is-empty}
use Rattle.handlebars_write.proofs.Emits.{empty-puts}
use Rattle.handlebars_write.proofs.Puts.{puts-no_memory}
use Rattle.handlebars_write.proofs.each_piece.put.Goals as goal

pub returns-then-is_empty-clause-puts : goal.returns-then-is_empty-clause-puts
returns-then-is_empty-clause-puts g c = λ o is s indent same.
    empty-puts _ o c.args.text.now s indent same (is-empty c.args.text.now (sym c.is_empty.ensures ∙ c.if-is_empty.true))

pub returns-in-Err-clause-puts : goal.returns-in-Err-clause-puts
returns-in-Err-clause-puts g c = λ o is s indent same. puts-no_memory _ o c.args.text.now s _ _

pub returns-in-Ok-clause-puts : goal.returns-in-Ok-clause-puts
returns-in-Ok-clause-puts g c = c.put_within.ensures.puts (c.as_slice.ensures.value ∙ c.in-Ok.ensures)
