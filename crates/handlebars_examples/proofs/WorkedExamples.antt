-- The worked examples have the stated outcomes: each run is computed.
use Rattle.std.proofs.Common.{refl, true, false, codes}
use Rattle.std.specs.Fmt.{digits}
use Rattle.handlebars_examples.proofs.SourceExamples as compiling
use Rattle.handlebars_base.specs.Escape.{escaped}
use Rattle.handlebars_semantics.specs.Steps.{◌>>=◌, ◌>>◌}
use Rattle.handlebars_semantics.specs.Runs.{done, wrote, set, did_capture}
use Rattle.handlebars_semantics.specs.Answer.{compiles, does_not, is_stored, not_begun, has_begun}
use Rattle.handlebars_examples.specs.Examples.{EmptyExample, ValueExample, MarkupExample, MissingExample, EscapedExample, RefusalExample, UnclosedExample, RawExample, CallExample, InnerExample, NameExample, LiteralExample, IfExample, NoInverseExample, ChainExample, NoParamExample, BlockExample, over, one_truth, in_first_block, nested_if, InnerIfExample, CaptureExample}
use Rattle.handlebars_examples.proofs.RunOf.{tree_run, gives_text}
use Rattle.handlebars_examples.proofs.Answered.{no_user_parts, value_is_known}

pub empty_example : EmptyExample
unfolding ◌>>=◌ ◌>>◌
empty_example given = gives_text (compiles compiling.empty_example) (tree_run _ no_user_parts _) refl

pub value_example : ValueExample
unfolding ◌>>=◌ ◌>>◌ escaped
value_example = gives_text (compiles compiling.value_example) (tree_run _ no_user_parts _) refl

pub markup_example : MarkupExample
unfolding ◌>>=◌ ◌>>◌ escaped
markup_example = gives_text (compiles compiling.value_example) (tree_run _ no_user_parts _) refl

pub missing_example : MissingExample
unfolding ◌>>=◌ ◌>>◌
missing_example = gives_text (compiles compiling.value_example) (tree_run _ no_user_parts _) refl

pub escaped_example : EscapedExample
unfolding ◌>>=◌ ◌>>◌ escaped digits
escaped_example = gives_text (compiles compiling.escaped_example) (tree_run _ no_user_parts _) refl

pub refusal_example : RefusalExample
unfolding ◌>>=◌ ◌>>◌
refusal_example = has_begun (compiles compiling.member_example) (tree_run _ no_user_parts _).runs

pub unclosed_example : UnclosedExample
unclosed_example given = not_begun (does_not compiling.unclosed_example)

-- ---- hand-built templates

pub raw_example : RawExample
unfolding ◌>>=◌ ◌>>◌ escaped
raw_example = gives_text (is_stored refl) (tree_run _ no_user_parts _) refl

pub call_example : CallExample
unfolding ◌>>=◌ ◌>>◌
call_example given = has_begun (is_stored refl) (tree_run _ no_user_parts _).runs

pub inner_example : InnerExample
unfolding ◌>>=◌ ◌>>◌
inner_example given = has_begun (is_stored refl) (tree_run _ no_user_parts _).runs

pub name_example : NameExample
unfolding ◌>>=◌ ◌>>◌
name_example given = has_begun (is_stored refl) (tree_run _ no_user_parts _).runs

pub literal_example : LiteralExample
unfolding ◌>>=◌ ◌>>◌ digits
literal_example given = has_begun (is_stored refl) (tree_run _ no_user_parts _).runs

-- ---- blocks

pub if_example : IfExample
unfolding ◌>>=◌ ◌>>◌
if_example true = gives_text (is_stored refl) (tree_run _ no_user_parts _) refl
if_example false = gives_text (is_stored refl) (tree_run _ no_user_parts _) refl

pub no_inverse_example : NoInverseExample
unfolding ◌>>=◌ ◌>>◌
no_inverse_example true = gives_text (is_stored refl) (tree_run _ no_user_parts _) refl
no_inverse_example false = gives_text (is_stored refl) (tree_run _ no_user_parts _) refl

pub chain_example : ChainExample
unfolding ◌>>=◌ ◌>>◌
chain_example true b = gives_text (is_stored refl) (tree_run _ no_user_parts _) refl
chain_example false true = gives_text (is_stored refl) (tree_run _ no_user_parts _) refl
chain_example false false = gives_text (is_stored refl) (tree_run _ no_user_parts _) refl

pub no_param_example : NoParamExample
unfolding ◌>>=◌ ◌>>◌
no_param_example given b i = has_begun (is_stored refl) (tree_run _ no_user_parts _).runs

pub block_example : BlockExample
unfolding ◌>>=◌ ◌>>◌
block_example given b i = has_begun (is_stored refl) (tree_run _ no_user_parts _).runs

pub inner_if_example : InnerIfExample
inner_if_example true true s =
    (value_is_known (over (one_truth true)) no_user_parts (in_first_block true s) (nested_if (codes "a"))).1
inner_if_example true false s =
    (value_is_known (over (one_truth true)) no_user_parts (in_first_block false s) (nested_if (codes "a"))).1
inner_if_example false true s =
    (value_is_known (over (one_truth false)) no_user_parts (in_first_block true s) (nested_if (codes "a"))).1
inner_if_example false false s =
    (value_is_known (over (one_truth false)) no_user_parts (in_first_block false s) (nested_if (codes "a"))).1

pub capture_example : CaptureExample
unfolding ◌>>=◌ ◌>>◌
capture_example p s next x = did_capture (wrote (set done)) (wrote done)
