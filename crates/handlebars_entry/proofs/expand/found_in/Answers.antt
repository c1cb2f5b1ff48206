use Rattle.std.proofs.Common.{◌≡◌}
use Rattle.handlebars_base.specs.Answers.{Answer}
use Rattle.handlebars_base.specs.PathView.{reference_of}
use Rattle.handlebars_base.specs.Scoped.{Found}
use Rattle.handlebars_scope.specs.Contexts.{data_of}
use Rattle.handlebars_scope.specs.Resolve.{resolve}
use Rattle.handlebars_expand.specs.Boxed.{error_of}
use Rattle.handlebars_expand.proofs.Propagated.{yields-propagated}
use Rattle.handlebars_context.specs.View.{state_of}
use Rattle.handlebars_entry.proofs.expand.found_in.Goals as goal

pub returns-in-Err-clause-value : goal.returns-in-Err-clause-value
returns-in-Err-clause-value c =
    let s = state_of c.args.rc.now in
    yields-propagated (λ (b : Answer Found). resolve s.recursive s.blocks (reference_of c.args.path.now) (data_of c.args.context.now) ≡ b)
    c.in-Err.e (error_of c.new.result) c.new.ensures c.in-Err.ensures.found
