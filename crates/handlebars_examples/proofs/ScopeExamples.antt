-- The worked examples of scopes have the stated outcomes: each run is computed.
use Rattle.std.proofs.Common.{refl}
use Rattle.std.specs.Fmt.{digits}
use Rattle.handlebars_base.specs.Escape.{escaped}
use Rattle.handlebars_semantics.specs.Steps.{◌>>=◌, ◌>>◌}
use Rattle.handlebars_semantics.specs.Answer.{compiles, is_stored, has_begun}
use Rattle.handlebars_examples.specs.ScopeExamples.{ArrayNameExample, TwoNamesExample, ShadowExample, LastExample, KeysExample, IndicesExample, NoMembersExample, EachInverseExample, WithInverseExample, TooFarUpExample, BoundUpExample, UpExample, RecursiveExample, WholeExample, LookupExample, TextIndexExample, NumberKeyExample}
use Rattle.handlebars_examples.proofs.RunOf.{tree_run, gives_text}
use Rattle.handlebars_examples.proofs.Answered.{no_user_parts}
use Rattle.handlebars_examples.proofs.ScopeTrees.{array_name_source, two_names_source, shadow_source, last_source, keys_source, indices_source, no_members_source, each_inverse_source, with_inverse_source, too_far_up_source, bound_up_source, up_source, recursive_source, whole_source, lookup_source}

pub array_name_example : ArrayNameExample
unfolding ◌>>=◌ ◌>>◌ digits
array_name_example = has_begun (compiles array_name_source) (tree_run _ no_user_parts _).runs

pub two_names_example : TwoNamesExample
unfolding ◌>>=◌ ◌>>◌ escaped digits
two_names_example = gives_text (compiles two_names_source) (tree_run _ no_user_parts _) refl

pub shadow_example : ShadowExample
unfolding ◌>>=◌ ◌>>◌ escaped digits
shadow_example = gives_text (compiles shadow_source) (tree_run _ no_user_parts _) refl

pub last_example : LastExample
unfolding ◌>>=◌ ◌>>◌ escaped
last_example = gives_text (compiles last_source) (tree_run _ no_user_parts _) refl

pub keys_example : KeysExample
unfolding ◌>>=◌ ◌>>◌ escaped digits
keys_example = gives_text (compiles keys_source) (tree_run _ no_user_parts _) refl

pub indices_example : IndicesExample
unfolding ◌>>=◌ ◌>>◌ escaped digits
indices_example = gives_text (compiles indices_source) (tree_run _ no_user_parts _) refl

pub no_members_example : NoMembersExample
unfolding ◌>>=◌ ◌>>◌
no_members_example = gives_text (compiles no_members_source) (tree_run _ no_user_parts _) refl

pub each_inverse_example : EachInverseExample
unfolding ◌>>=◌ ◌>>◌
each_inverse_example = gives_text (compiles each_inverse_source) (tree_run _ no_user_parts _) refl

pub with_inverse_example : WithInverseExample
unfolding ◌>>=◌ ◌>>◌
with_inverse_example = gives_text (compiles with_inverse_source) (tree_run _ no_user_parts _) refl

pub too_far_up_example : TooFarUpExample
unfolding ◌>>=◌ ◌>>◌ escaped digits
too_far_up_example = gives_text (compiles too_far_up_source) (tree_run _ no_user_parts _) refl

pub bound_up_example : BoundUpExample
unfolding ◌>>=◌ ◌>>◌ escaped digits
bound_up_example = gives_text (compiles bound_up_source) (tree_run _ no_user_parts _) refl

pub up_example : UpExample
unfolding ◌>>=◌ ◌>>◌ escaped digits
up_example = gives_text (compiles up_source) (tree_run _ no_user_parts _) refl

pub recursive_example : RecursiveExample
unfolding ◌>>=◌ ◌>>◌ escaped digits
recursive_example = gives_text (compiles recursive_source) (tree_run _ no_user_parts _) refl

pub whole_example : WholeExample
unfolding ◌>>=◌ ◌>>◌ escaped
whole_example = gives_text (compiles whole_source) (tree_run _ no_user_parts _) refl

pub lookup_example : LookupExample
unfolding ◌>>=◌ ◌>>◌ escaped digits
lookup_example = gives_text (compiles lookup_source) (tree_run _ no_user_parts _) refl

pub text_index_example : TextIndexExample
unfolding ◌>>=◌ ◌>>◌ escaped
text_index_example = gives_text (is_stored refl) (tree_run _ no_user_parts _) refl

pub number_key_example : NumberKeyExample
unfolding ◌>>=◌ ◌>>◌ escaped
number_key_example = gives_text (is_stored refl) (tree_run _ no_user_parts _) refl
