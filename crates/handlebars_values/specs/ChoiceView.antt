-- What the code's choices of built-in helpers represent.
use Rattle.std.specs.Prelude.{Bool, string_bytes}
use Rattle.serde_json.specs.Data.{Data, number, unsigned}
use Rattle.handlebars_base.specs.Equal.{equals}
use Rattle.handlebars_base.specs.Scoped.{data_in, path_in}
use Rattle.handlebars_scope.specs.Scopes.{base_of}
use Rattle.handlebars_helpers.specs.Boolean.{differ, greater, greater_or_equal, less, less_or_equal}
use Rattle.handlebars_helpers.specs.Choice.{the_body, the_inverse, body_in_block, body_in_iterations, the_value, the_boolean, the_line, nothing}
use Rattle.handlebars_helpers.specs.Choice as plain
use Rattle.handlebars_helpers.specs.Iterations.{iterations_of}
use Rattle.handlebars_values.specs.ParamView.{IsOf, value_found}
use Rattle.handlebars_values.specs.declared.boolean.Test.{Test}
use Rattle.handlebars_values.specs.declared.boolean.Test.TheVariants as test
use Rattle.handlebars_values.specs.declared.built_in.BuiltInChoice.{BuiltInChoice}
use Rattle.handlebars_values.specs.declared.built_in.BuiltInChoice.TheVariants.{Body, Inverse, With, Each, Value, Count, Boolean, Line, Nothing}

-- a test of two values
abbrev pub test_of : Test → Data → Data → Bool
test_of test.Equal = equals
test_of test.Differ = differ
test_of test.Greater = greater
test_of test.GreaterOrEqual = greater_or_equal
test_of test.Less = less
test_of test.LessOrEqual = less_or_equal

-- what a choice of the code represents
abbrev pub choice_seen : BuiltInChoice → plain.Choice
choice_seen Body = the_body
choice_seen Inverse = the_inverse
choice_seen (With v) = body_in_block (base_of (value_found v))
choice_seen (Each v) = body_in_iterations (path_in (value_found v)) (iterations_of (data_in (value_found v)))
choice_seen (Value v) = the_value (data_in (value_found v))
choice_seen (Count n) = the_value (number (unsigned n))
choice_seen (Boolean b) = the_boolean b
choice_seen (Line level text) = the_line level (string_bytes text)
choice_seen Nothing = nothing

-- A value that the body is rendered at is one of these data, if it is a value of the data.
abbrev pub IsChoiceOf : Data → BuiltInChoice → Type 0
IsChoiceOf d Body = Unit {0}
IsChoiceOf d Inverse = Unit {0}
IsChoiceOf d (With v) = IsOf d v
IsChoiceOf d (Each v) = IsOf d v
IsChoiceOf d (Value v) = Unit {0}
IsChoiceOf d (Count n) = Unit {0}
IsChoiceOf d (Boolean b) = Unit {0}
IsChoiceOf d (Line level text) = Unit {0}
IsChoiceOf d Nothing = Unit {0}
