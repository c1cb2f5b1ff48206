-- The worked decorator tags have the stated effects: each run is computed.
use Rattle.std.proofs.Common.{refl}
use Rattle.handlebars_semantics.specs.Steps.{◌>>=◌, ◌>>◌}
use Rattle.handlebars_semantics.specs.Answer.{is_stored, has_begun}
use Rattle.handlebars_examples.specs.DecoratorExamples.{NearestExample, NoBlockExample, InlineNoParamExample, NoTextExample, NoBodyExample, UnknownExample, SilentExample, EvalExample, EvalFailedExample}
use Rattle.handlebars_examples.proofs.Answered.{no_user_parts}
use Rattle.handlebars_examples.proofs.RunOf.{evaluated_run, tree_run, gives_text}

pub nearest_example : NearestExample
unfolding ◌>>=◌ ◌>>◌
nearest_example s f fs t given = (evaluated_run 99 _ no_user_parts _ _).runs

pub no_block_example : NoBlockExample
unfolding ◌>>=◌ ◌>>◌
no_block_example s t given = (evaluated_run 99 _ no_user_parts _ _).runs

pub no_param_example : InlineNoParamExample
unfolding ◌>>=◌ ◌>>◌
no_param_example given = has_begun (is_stored refl) (tree_run _ no_user_parts _).runs

pub no_text_example : NoTextExample
unfolding ◌>>=◌ ◌>>◌
no_text_example given = has_begun (is_stored refl) (tree_run _ no_user_parts _).runs

pub no_body_example : NoBodyExample
unfolding ◌>>=◌ ◌>>◌
no_body_example given = has_begun (is_stored refl) (tree_run _ no_user_parts _).runs

pub unknown_example : UnknownExample
unfolding ◌>>=◌ ◌>>◌
unknown_example given b = has_begun (is_stored refl) (tree_run _ no_user_parts _).runs

pub silent_example : SilentExample
unfolding ◌>>=◌ ◌>>◌
silent_example given t = gives_text (is_stored refl) (tree_run _ no_user_parts _) refl

pub eval_example : EvalExample
unfolding ◌>>=◌ ◌>>◌
eval_example given s f fs t = (evaluated_run 99 _ no_user_parts _ _).runs

pub eval_failed_example : EvalFailedExample
unfolding ◌>>=◌ ◌>>◌
eval_failed_example given s = (evaluated_run 99 _ no_user_parts _ _).runs
