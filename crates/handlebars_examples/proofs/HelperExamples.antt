-- The worked examples of helpers have the stated outcomes: each run is computed.
use Rattle.std.proofs.Common.{refl}
use Rattle.std.specs.Fmt.{digits}
use Rattle.log.specs.Level.{parse_level}
use Rattle.handlebars_base.specs.Escape.{escaped}
use Rattle.handlebars_semantics.specs.Steps.{◌>>=◌, ◌>>◌}
use Rattle.handlebars_semantics.specs.Answer.{compiles, has_begun}
use Rattle.handlebars_examples.specs.HelperExamples.{RangeExample, SpelledExample, MinusZeroExample, LeadingZeroExample, DigitsExample, BooleanTextExample, BooleanBlockExample, InnerBooleanExample, OneValueExample, LenExample, LenAloneExample, LogExample, StrictExample, StrictNullExample, PlainExample, HookExample, UnregisteredExample}
use Rattle.handlebars_examples.proofs.RunOf.{tree_run, gives_text}
use Rattle.handlebars_examples.proofs.Answered.{no_user_parts}
use Rattle.handlebars_examples.proofs.HelperTrees.{word_source, boolean_block_source, inner_boolean_source, one_value_source, len_source, len_alone_source, log_source, lone_source, hook_source, unregistered_source}

-- ---- order and equality of values

pub range_example : RangeExample
range_example = refl

pub spelled_example : SpelledExample
spelled_example = refl

pub minus_zero_example : MinusZeroExample
minus_zero_example = refl

pub leading_zero_example : LeadingZeroExample
leading_zero_example = refl

pub digits_example : DigitsExample
digits_example = refl

-- ---- sources

pub boolean_text_example : BooleanTextExample
unfolding ◌>>=◌ ◌>>◌
boolean_text_example given = gives_text (compiles word_source) (tree_run _ no_user_parts _) refl

pub boolean_block_example : BooleanBlockExample
unfolding ◌>>=◌ ◌>>◌
boolean_block_example given = gives_text (compiles boolean_block_source) (tree_run _ no_user_parts _) refl

pub inner_boolean_example : InnerBooleanExample
unfolding ◌>>=◌ ◌>>◌
inner_boolean_example = gives_text (compiles inner_boolean_source) (tree_run _ no_user_parts _) refl

pub one_value_example : OneValueExample
unfolding ◌>>=◌ ◌>>◌
one_value_example given = has_begun (compiles one_value_source) (tree_run _ no_user_parts _).runs

pub len_example : LenExample
unfolding ◌>>=◌ ◌>>◌ escaped digits
len_example given = gives_text (compiles len_source) (tree_run _ no_user_parts _) refl

pub len_alone_example : LenAloneExample
unfolding ◌>>=◌ ◌>>◌
len_alone_example = has_begun (compiles len_alone_source) (tree_run _ no_user_parts _).runs

pub log_example : LogExample
unfolding ◌>>=◌ ◌>>◌ digits parse_level
log_example = gives_text (compiles log_source) (tree_run _ no_user_parts _) refl

pub strict_example : StrictExample
unfolding ◌>>=◌ ◌>>◌
strict_example = has_begun (compiles lone_source) (tree_run _ no_user_parts _).runs

pub strict_null_example : StrictNullExample
unfolding ◌>>=◌ ◌>>◌ escaped
strict_null_example = gives_text (compiles lone_source) (tree_run _ no_user_parts _) refl

pub plain_example : PlainExample
unfolding ◌>>=◌ ◌>>◌
plain_example = gives_text (compiles lone_source) (tree_run _ no_user_parts _) refl

pub hook_example : HookExample
unfolding ◌>>=◌ ◌>>◌ escaped digits
hook_example given = gives_text (compiles hook_source) (tree_run _ no_user_parts _) refl

pub unregistered_example : UnregisteredExample
unfolding ◌>>=◌ ◌>>◌ escaped digits
unregistered_example = gives_text (compiles unregistered_source) (tree_run _ no_user_parts _) refl
