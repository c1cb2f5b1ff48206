-- What is expected of a rendering.
use Rattle.std.specs.Prelude.{◌≡◌, IfNone, IfSome, Some, option_map, string_bytes}
use Rattle.test_cases.specs.Marks.{HasMarks}
use Rattle.test_cases.specs.Outcomes.{OutcomeView, returned_by, outcome_view, stored_refusal_view}
use Rattle.test_cases.specs.Pieces.{ArePieces}
use Rattle.test_cases.specs.declared.came.Came.{Came}
use Rattle.test_cases.specs.declared.expected.Expected.{Expected}

-- the output, and the error that ends it, if one does
abbrev pub outcome_of : Came → OutcomeView
outcome_of came = record { text = string_bytes came.text; refusal = option_map stored_refusal_view came.refusal }

-- The printed error is the expected one, if one is expected.
abbrev pub Prints : Came → Expected → Type 0
Prints came expected = IfSome expected.printed (λ text. option_map string_bytes came.printed ≡ Some text.now)

-- A text has the expected marks, unless an error ends it.
abbrev pub HasMarksIfWhole : Came → Expected → Type 0
HasMarksIfWhole came expected = IfNone came.refusal (HasMarks (string_bytes came.text) expected.marks)

-- A call returns the expected text, or the expected error and no text. The printed error is the expected one, and a text has
-- the expected marks.
abbrev pub IsReturned : Came → Expected → Type 0
IsReturned came expected =
    (returned_by (outcome_of came) ≡ returned_by (outcome_view expected.outcome)) × Prints came expected × HasMarksIfWhole came expected

-- The output is the expected text, with the expected marks. The error after it is the expected one, and so is the printed
-- error.
abbrev pub IsWritten : Came → Expected → Type 0
IsWritten came expected =
    (outcome_of came ≡ outcome_view expected.outcome) × Prints came expected × HasMarks (string_bytes came.text) expected.marks

-- Pieces are emitted: their joined text is written as expected, and they are the expected pieces.
abbrev pub IsEmitted : Came → Expected → Type 0
IsEmitted came expected = IsWritten came expected × ArePieces came.pieces.items expected.pieces
