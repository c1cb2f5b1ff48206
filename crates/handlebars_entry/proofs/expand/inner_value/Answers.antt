use Rattle.std.proofs.Common.{subst}
use Rattle.handlebars_base.specs.Scoped.{found_of}
use Rattle.handlebars_template.specs.TreeView.{subexpression_view}
use Rattle.handlebars_scope.specs.Contexts.{data_of}
use Rattle.handlebars_semantics.specs.State.{State}
use Rattle.handlebars_semantics.specs.Values.{HasInnerValue}
use Rattle.handlebars_expand.specs.Boxed.{answer_of}
use Rattle.handlebars_expand.specs.View.{Yields}
use Rattle.handlebars_entry.specs.Entry.{over}
use Rattle.handlebars_entry.proofs.expand.inner_value.Goals as goal

pub returns-clause-value : goal.returns-clause-value
returns-clause-value g c =
    subst (λ (s : State). Yields (HasInnerValue (over (g.P.Registered.parts c.args.parts.now) (data_of c.args.given.now)) s
    (subexpression_view c.args.inner.now)) found_of (answer_of c.inner_outermost-answer.result)) c.take-blocks.ensures.state
    c.inner_outermost-answer.ensures.value
