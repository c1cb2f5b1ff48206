use Rattle.handlebars_base.specs.PathView.{reference_of}
use Rattle.handlebars_base.specs.Scoped.{found_of}
use Rattle.handlebars_scope.specs.Contexts.{data_of}
use Rattle.handlebars_template.proofs.Levels.{param_view-Path, param_view-Subexpression}
use Rattle.handlebars_expand.specs.Boxed.{answer_of}
use Rattle.handlebars_expand.proofs.Values.{yields-answer}
use Rattle.handlebars_context.specs.View.{state_of}
use Rattle.handlebars_entry.specs.Entry.{read_over}
use Rattle.handlebars_entry.proofs.expand.expands.Goals as goal

pub returns-in-Path-clause-value : goal.returns-in-Path-clause-value
returns-in-Path-clause-value g c = rw (c.in-Path.is, param_view-Path)
    (yields-answer found_of (read_over (data_of c.args.given.now) (state_of c.args.rc.now) (reference_of c.in-Path.path)) (answer_of c.path_value.result)
    c.path_value.ensures.value)

pub returns-in-Subexpression-clause-value : goal.returns-in-Subexpression-clause-value
returns-in-Subexpression-clause-value g c = rw (c.in-Subexpression.is, param_view-Subexpression) c.inner_value.ensures.value
