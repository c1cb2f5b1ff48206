-- Values that are compared, and worked examples of helpers, strict mode and hooks, each with its outcome over data.
use Rattle.std.specs.Prelude.{◌≡◌, ℕ, ◌-◌, ◌^◌, pos, neg_ℤ, List, [], ◌∷◌, Option, Some, None, cond, codes, false, true}
use Rattle.std.specs.Str.{bytes_eq}
use Rattle.std.specs.declared.cmp.Ordering.{Ordering}
use Rattle.std.specs.declared.cmp.Ordering.TheVariants.{Less, Greater}
use Rattle.serde_json.specs.Data.{negative, Data, null, number, string, object, no_members}
use Rattle.handlebars_base.specs.Bytes.{Text}
use Rattle.handlebars_base.specs.Compare.{compared}
use Rattle.handlebars_base.specs.Equal.{equals}
use Rattle.handlebars_base.specs.Reasons.{Reason, missing_variable, param_not_found_for_index, param_not_found_for_name}
use Rattle.handlebars_lexer.specs.Options.{no_options}
use Rattle.handlebars_semantics.specs.Pieces.{Piece, of_text}
use Rattle.handlebars_semantics.specs.Occurrences.{first_tree, element_in}
use Rattle.handlebars_helpers.specs.Callee.{Callee, built, first_callee}
use Rattle.handlebars_helpers.specs.Choice.{kind_len}
use Rattle.handlebars_helpers.specs.Escaping.{for_plain}
use Rattle.handlebars_semantics.specs.State.{Setting}
use Rattle.handlebars_semantics.specs.Runs.{Failed}
use Rattle.handlebars_semantics.specs.Answer.{FromSource, RenderAnswers}
use Rattle.handlebars_examples.specs.Examples.{with, over, one, first_parts}
use Rattle.handlebars_examples.specs.ScopeExamples.{natural, Gives}
use Rattle.handlebars_examples.specs.SourceExamples.{at}

-- ---- order and equality of values

-- the greatest and the least number of the range
abbrev pub greatest : Data
greatest = natural (2 ^ 64 - 1)

abbrev pub least : Data
least = number (negative (neg_ℤ (pos (2 ^ 63))))

-- how a text and a number compare: the order, or none
abbrev pub Compares : Text → ℕ → Option Ordering → Type 0
Compares t n order = compared (string t) (natural n) ≡ order

-- The greatest number is above the least.
abbrev pub RangeExample : Type 0
RangeExample = compared greatest least ≡ Some Greater

-- A text is compared with a number by the number that it spells.
abbrev pub SpelledExample : Type 0
SpelledExample = Compares (codes "-1") 0 (Some Less)

-- A zero after a minus spells no number.
abbrev pub MinusZeroExample : Type 0
MinusZeroExample = Compares (codes "-0") 0 None

-- Digits after a zero spell no number either.
abbrev pub LeadingZeroExample : Type 0
LeadingZeroExample = Compares (codes "01") 1 None

-- A number and the text of its digits are not equal.
abbrev pub DigitsExample : Type 0
DigitsExample = equals (natural 5) (string (codes "5")) ≡ false

-- ---- boolean helpers

-- data with no members
abbrev pub nothing_given : Data
nothing_given = object no_members

-- In an expression a boolean helper writes its boolean text, over any data.
abbrev pub BooleanTextExample : Type 0
BooleanTextExample = (given : Data) → Gives (over given) (codes "{{eq 1 1}}") (codes "true")

-- As a block it renders its inverse if its result is false, over any data.
abbrev pub BooleanBlockExample : Type 0
BooleanBlockExample = (given : Data) → Gives (over given) (codes "{{#eq 1 2}}y{{else}}n{{/eq}}") (codes "n")

-- In parentheses its value is a boolean. A missing value counts as false.
abbrev pub InnerBooleanExample : Type 0
InnerBooleanExample = Gives (over nothing_given) (codes "{{#if (not a)}}y{{/if}}") (codes "y")

-- Rendering the source fails for this reason at this column of the first line, after these pieces.
abbrev pub RenderingFailsAt : Setting → Text → List Piece → ℕ → Reason → Type 0
RenderingFailsAt p source ps column r =
    RenderAnswers p (FromSource no_options source) ps
    (Failed (record { reason = r; location = record { name = None; line = Some 1; column = Some column } }))

-- Without a second value it fails, over any data.
abbrev pub OneValueExample : Type 0
OneValueExample = (given : Data)
    → RenderingFailsAt (over given) (codes "{{eq 1}}") [] 1 (param_not_found_for_index (codes "eq") 1)

-- ---- `len` and `log`

-- `len` returns the number of bytes of a text, over any data.
abbrev pub LenExample : Type 0
LenExample = (given : Data) → Gives (over given) (codes "{{len \"ab\"}}") (codes "2")

-- data with a member that has the name of a helper
abbrev pub len_given : Data
len_given = with (codes "len") (natural 5)

-- The helper of a name comes before the value. Alone it lacks its parameter. The text before it is written.
abbrev pub LenAloneExample : Type 0
LenAloneExample =
    RenderingFailsAt (over len_given) (codes "ab{{len}}c")
    (record { origin = of_text (element_in first_tree 0 (Some (at 1 1))); text = codes "ab" } ∷ []) 3
    (param_not_found_for_name (codes "len") (codes "x"))

-- `log` writes nothing.
abbrev pub LogExample : Type 0
LogExample = Gives (over one) (codes "{{log a}}") []

-- ---- strict mode

-- a run in strict mode, with the helpers of a new registry
abbrev pub strict_over : Data → Setting
strict_over given = record { given = given; parts = record first_parts { strict = true } }

-- In strict mode a missing value is an error, which has the text as written.
abbrev pub StrictExample : Type 0
StrictExample = RenderingFailsAt (strict_over nothing_given) (codes "{{x}}") [] 1 (missing_variable (Some (codes "x")))

-- Null is no missing value there: nothing is written, and there is no error.
abbrev pub StrictNullExample : Type 0
StrictNullExample = Gives (strict_over (with (codes "x") null)) (codes "{{x}}") []

-- ---- other escapes

-- a run that escapes values for plain text
abbrev pub plain_over : Data → Setting
plain_over given = record { given = given; parts = record first_parts { escape = for_plain } }

-- For plain text a mark of HTML is written as it is.
abbrev pub PlainExample : Type 0
PlainExample = Gives (plain_over (with (codes "x") (string (codes "<")))) (codes "{{x}}") (codes "<")

-- ---- other helpers

-- the helpers of a new registry, except that this one or none is registered under a name
abbrev pub built_in_but : Text → Option Callee → Text → Option Callee
built_in_but name callee other = cond (bytes_eq name other) callee (first_callee other)

-- a run over data, with other helpers
abbrev pub over_with : (Text → Option Callee) → Data → Setting
over_with helper given = record { given = given; parts = record first_parts { helper = helper } }

-- A call whose name has no helper calls the hook `helperMissing`, here `len`, over any data.
abbrev pub HookExample : Type 0
HookExample = (given : Data) → Gives (over_with (built_in_but (codes "helperMissing") (Some (built kind_len))) given)
    (codes "{{x \"ab\"}}") (codes "2")

-- Without a helper of that name, `len` stands for its value.
abbrev pub UnregisteredExample : Type 0
UnregisteredExample = Gives (over_with (built_in_but (codes "len") None) len_given) (codes "{{len}}") (codes "5")
