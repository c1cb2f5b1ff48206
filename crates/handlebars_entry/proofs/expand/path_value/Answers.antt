use Rattle.std.proofs.Common.{subst, sym}
use Rattle.handlebars_base.specs.Answers.{Answer, Answers}
use Rattle.handlebars_base.specs.PathView.{reference_of}
use Rattle.handlebars_base.specs.Scoped.{Found, found_of}
use Rattle.handlebars_base.specs.RenderRefusals.{refusal_of}
use Rattle.handlebars_scope.specs.Contexts.{data_of}
use Rattle.handlebars_expand.specs.Boxed.{answer_of, error_of}
use Rattle.handlebars_expand.proofs.Values.{propagated}
use Rattle.handlebars_context.specs.View.{state_of}
use Rattle.handlebars_entry.proofs.Values.{fails-changed, gives-pathless, read-given}
use Rattle.handlebars_entry.proofs.expand.path_value.Goals as goal

pub returns-in-None-clause-value : goal.returns-in-None-clause-value
returns-in-None-clause-value c =
    subst (λ (a : Answer Found). Answers found_of (answer_of c.found_in.result) a)
    (sym (read-given (data_of c.args.given.now) (state_of c.args.rc.now) (reference_of c.args.path.now) c.in-None.ensures)) c.found_in.ensures.value

pub returns-in_ok-pathless-in-Some-clause-value : goal.returns-in_ok-pathless-in-Some-clause-value
returns-in_ok-pathless-in-Some-clause-value c =
    gives-pathless (data_of c.args.given.now) (state_of c.args.rc.now) (reference_of c.args.path.now) (data_of c.in-Some.changed.now)
    (found_of c.in_ok-found_in-in-Some.field-0) (found_of c.in_ok-pathless-in-Some.field-0) c.in-Some.ensures
    c.in_ok-found_in-in-Some.ensures.value c.in_ok-pathless-in-Some.ensures.value

pub returns-in_err-found_in-in-Some-clause-value : goal.returns-in_err-found_in-in-Some-clause-value
returns-in_err-found_in-in-Some-clause-value c =
    propagated _ _ _ _ c.from_residual.ensures.1
    (λ other. fails-changed (data_of c.args.given.now) (state_of c.args.rc.now) (reference_of c.args.path.now) (data_of c.in-Some.changed.now)
    (refusal_of (error_of c.in_err-found_in-in-Some.field-0.0)) c.in-Some.ensures (c.in_err-found_in-in-Some.ensures.value other))
