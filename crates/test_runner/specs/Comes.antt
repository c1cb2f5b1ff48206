-- When the result of a test case is the expected one.
use Rattle.std.specs.Prelude.{IfSome}
use Rattle.test_cases.specs.Expected.{IsReturned, IsEmitted, IsWritten}
use Rattle.test_cases.specs.declared.rendering.Rendering.{Rendering}
use Rattle.test_cases.specs.declared.expected.Expected.{Expected}
use Rattle.test_runner.specs.declared.answer.Answer.{Answer}
use Rattle.test_runner.specs.declared.answers.Answers.{Answers}

-- The results of all render calls that the test case asks for are the expected ones.
abbrev pub IsAsExpected : Answer → Expected → Type 0
IsAsExpected answer expected =
    IfSome answer.registry (λ came. IsReturned came expected)
    × IfSome answer.converted (λ came. IsReturned came expected)
    × IfSome answer.template (λ came. IsWritten came expected)
    × IfSome answer.writer (λ came. IsWritten came expected)
    × IfSome answer.converting (λ came. IsWritten came expected)
    × IfSome answer.pieces (λ came. IsEmitted came expected)

-- So are the results of the second run, if there is one.
abbrev pub OtherComesTo : Answers → Rendering → Type 0
OtherComesTo answers test_case =
    IfSome answers.other (λ answer. IfSome test_case.other (λ other. IsAsExpected answer other.expected))
