-- The worked partials that capture or restore something have the stated outcomes: each run is computed.
use Rattle.std.proofs.Common.{refl}
use Rattle.std.specs.Fmt.{digits}
use Rattle.handlebars_base.specs.Escape.{escaped}
use Rattle.handlebars_semantics.specs.Answer.{is_stored, has_begun}
use Rattle.handlebars_semantics.specs.Steps.{◌>>=◌, ◌>>◌}
use Rattle.handlebars_examples.specs.CapturedExamples.{AsCapturedExample, SetAheadExample, NameAsBeforeExample, DefaultBlockExample, CapturedAsBeforeExample, BoundPairExample, AheadCountExample, LineEndExample}
use Rattle.handlebars_examples.proofs.Answered.{no_user_parts}
use Rattle.handlebars_examples.proofs.RunOf.{tree_run, gives_text}

pub as_captured_example : AsCapturedExample
unfolding ◌>>=◌ ◌>>◌
as_captured_example = gives_text (is_stored refl) (tree_run _ no_user_parts _) refl

pub set_ahead_example : SetAheadExample
unfolding ◌>>=◌ ◌>>◌
set_ahead_example = gives_text (is_stored refl) (tree_run _ no_user_parts _) refl

pub name_as_before_example : NameAsBeforeExample
unfolding ◌>>=◌ ◌>>◌
name_as_before_example =
    record { pieces = _; answers = has_begun (is_stored refl) (tree_run _ no_user_parts _).runs; is = refl }

pub default_block_example : DefaultBlockExample
unfolding ◌>>=◌ ◌>>◌
default_block_example = gives_text (is_stored refl) (tree_run _ no_user_parts _) refl

pub captured_as_before_example : CapturedAsBeforeExample
unfolding ◌>>=◌ ◌>>◌
captured_as_before_example = gives_text (is_stored refl) (tree_run _ no_user_parts _) refl

pub bound_pair_example : BoundPairExample
unfolding ◌>>=◌ ◌>>◌ digits escaped
bound_pair_example = gives_text (is_stored refl) (tree_run _ no_user_parts _) refl

pub ahead_count_example : AheadCountExample
unfolding ◌>>=◌ ◌>>◌
ahead_count_example = gives_text (is_stored refl) (tree_run _ no_user_parts _) refl

pub line_end_example : LineEndExample
unfolding ◌>>=◌ ◌>>◌
line_end_example = gives_text (is_stored refl) (tree_run _ no_user_parts _) refl
