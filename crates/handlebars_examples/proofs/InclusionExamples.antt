-- The worked partials have the stated outcomes: each run is computed.
use Rattle.std.proofs.Common.{refl}
use Rattle.std.specs.Char.{encode_utf8}
use Rattle.std.specs.Fmt.{digits}
use Rattle.std.specs.Str.{chars}
use Rattle.handlebars_base.specs.Escape.{escaped}
use Rattle.handlebars_semantics.specs.Answer.{is_stored, has_begun}
use Rattle.handlebars_semantics.specs.Steps.{◌>>=◌, ◌>>◌}
use Rattle.handlebars_examples.specs.InclusionExamples.{IndentedExample, NotIndentedExample, NestedIndentExample, NotFoundExample, OwnBlockExample, LocalExample, CalledNameExample, NextIterationExample, MergedExample, LayoutExample, NoCapturedExample, FailedAheadExample, SelfExample, LimitReachedExample, FullExample}
use Rattle.handlebars_examples.proofs.Answered.{no_user_parts}
use Rattle.handlebars_examples.proofs.RunOf.{tree_run, gives_text}

pub indented_example : IndentedExample
unfolding ◌>>=◌ ◌>>◌
indented_example = gives_text (is_stored refl) (tree_run _ no_user_parts _) refl

pub not_indented_example : NotIndentedExample
unfolding ◌>>=◌ ◌>>◌
not_indented_example = gives_text (is_stored refl) (tree_run _ no_user_parts _) refl

pub nested_indent_example : NestedIndentExample
unfolding ◌>>=◌ ◌>>◌
nested_indent_example = gives_text (is_stored refl) (tree_run _ no_user_parts _) refl

pub not_found_example : NotFoundExample
unfolding ◌>>=◌ ◌>>◌
not_found_example given = has_begun (is_stored refl) (tree_run _ no_user_parts _).runs

pub own_block_example : OwnBlockExample
unfolding ◌>>=◌ ◌>>◌
own_block_example = gives_text (is_stored refl) (tree_run _ no_user_parts _) refl

pub local_example : LocalExample
unfolding ◌>>=◌ ◌>>◌
local_example = gives_text (is_stored refl) (tree_run _ no_user_parts _) refl

pub called_name_example : CalledNameExample
unfolding ◌>>=◌ ◌>>◌
called_name_example = gives_text (is_stored refl) (tree_run _ no_user_parts _) refl

pub next_iteration_example : NextIterationExample
unfolding ◌>>=◌ ◌>>◌ digits
next_iteration_example = gives_text (is_stored refl) (tree_run _ no_user_parts _) refl

pub merged_example : MergedExample
unfolding ◌>>=◌ ◌>>◌ digits escaped chars encode_utf8
merged_example = gives_text (is_stored refl) (tree_run _ no_user_parts _) refl

pub layout_example : LayoutExample
unfolding ◌>>=◌ ◌>>◌ escaped
layout_example = gives_text (is_stored refl) (tree_run _ no_user_parts _) refl

pub no_captured_example : NoCapturedExample
unfolding ◌>>=◌ ◌>>◌
no_captured_example given = has_begun (is_stored refl) (tree_run _ no_user_parts _).runs

pub failed_ahead_example : FailedAheadExample
unfolding ◌>>=◌ ◌>>◌
failed_ahead_example given = has_begun (is_stored refl) (tree_run _ no_user_parts _).runs

pub self_example : SelfExample
unfolding ◌>>=◌ ◌>>◌
self_example given = has_begun (is_stored refl) (tree_run _ no_user_parts _).runs

pub limit_reached_example : LimitReachedExample
unfolding ◌>>=◌ ◌>>◌
limit_reached_example given = has_begun (is_stored refl) (tree_run _ no_user_parts _).runs

pub full_example : FullExample
unfolding ◌>>=◌ ◌>>◌
full_example given =
    record { pieces = _; answers = has_begun (is_stored refl) (tree_run _ no_user_parts _).runs; is = refl }
