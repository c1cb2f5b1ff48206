use Rattle.std.proofs.Common.{false, true}
use Rattle.handlebars_semantics.specs.Runs.{plain_write_error}
use Rattle.handlebars_expand.specs.Boxed.{error_of}
use Rattle.handlebars_write.proofs.Refinement.{propagated-write_error}
use Rattle.handlebars_write.proofs.Puts.{reports_write_error}
use Rattle.handlebars_write.proofs.write_error.write_error_outcome.Goals as goal

pub returns-then-at_boolean_text : goal.returns-then-at_boolean_text
returns-then-at_boolean_text c = rw (c.if-at_boolean_text.true, c.from.ensures)
    (propagated-write_error c.boolean_text_error.result (error_of c.new.result) c.args.write_error (plain_write_error true) c.new.ensures c.boolean_text_error.ensures)

pub returns-else-at_boolean_text : goal.returns-else-at_boolean_text
returns-else-at_boolean_text c = rw (c.if-at_boolean_text.false, c.from-else-at_boolean_text.ensures)
    (propagated-write_error c.output_error.result (error_of c.new-else-at_boolean_text.result) c.args.write_error (plain_write_error false) c.new-else-at_boolean_text.ensures
    (reports_write_error c.args.write_error c.output_error.result c.output_error.ensures.refusal c.output_error.ensures.cause))
