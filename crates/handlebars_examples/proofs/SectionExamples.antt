-- The worked blocks without a helper have the stated outcomes: each run is computed.
use Rattle.std.proofs.Common.{refl}
use Rattle.std.specs.Fmt.{digits}
use Rattle.handlebars_base.specs.Escape.{escaped}
use Rattle.handlebars_base.specs.PathReading as path
use Rattle.handlebars_base.specs.Texts as texts
use Rattle.std.specs.Prelude.{⊤}
use Rattle.handlebars_semantics.specs.Steps.{◌>>=◌, ◌>>◌}
use Rattle.handlebars_semantics.specs.Answer.{compiles, is_stored, has_begun}
use Rattle.handlebars_examples.specs.SectionExamples.{ArrayExample, ObjectExample, BooleanExample, NoValueExample, ParameterExample, NoSectionsExample}
use Rattle.handlebars_examples.proofs.RunOf.{tree_run, gives_text}
use Rattle.handlebars_examples.proofs.Answered.{no_user_parts}
use Rattle.handlebars_examples.proofs.SectionTrees.{array_source, value_source, no_value_source, parameter_source}

-- what is unfolded to read a name as a path
unfoldable on_names : ⊤
unfolding texts.after_byte path.plain_at path.part_at path.links_at path.links_of path.start_without_at_sign path.start_at path.shape_at path.shape_of
on_names = tt

pub array_example : ArrayExample
unfolding ◌>>=◌ ◌>>◌ escaped digits on_names
array_example = gives_text (compiles array_source) (tree_run _ no_user_parts _) refl

pub object_example : ObjectExample
unfolding ◌>>=◌ ◌>>◌ escaped digits on_names
object_example = gives_text (compiles value_source) (tree_run _ no_user_parts _) refl

pub boolean_example : BooleanExample
unfolding ◌>>=◌ ◌>>◌ escaped digits on_names
boolean_example = gives_text (compiles value_source) (tree_run _ no_user_parts _) refl

pub no_value_example : NoValueExample
unfolding ◌>>=◌ ◌>>◌ on_names
no_value_example = gives_text (compiles no_value_source) (tree_run _ no_user_parts _) refl

pub parameter_example : ParameterExample
unfolding ◌>>=◌ ◌>>◌
parameter_example given = has_begun (compiles parameter_source) (tree_run _ no_user_parts _).runs

pub no_sections_example : NoSectionsExample
unfolding ◌>>=◌ ◌>>◌
no_sections_example given b i = has_begun (is_stored refl) (tree_run _ no_user_parts _).runs
