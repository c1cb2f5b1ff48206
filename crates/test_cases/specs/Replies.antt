-- The results of test cases that ask one call, as plain data.
use Rattle.std.specs.Prelude.{ℕ, List, string_bytes}
use Rattle.test_cases.specs.declared.reply.OwnedReply.{OwnedReply}
use Rattle.test_cases.specs.declared.reply.OwnedReply.TheVariants as owned
use Rattle.test_cases.specs.declared.reply.Reply.{Reply}
use Rattle.test_cases.specs.declared.reply.Reply.TheVariants.{Gives, Prints}

-- what a call answers: its result, or the text of its error
pub data ReplyView : Type 0 where
  given : List ℕ → ReplyView
  printed : List ℕ → ReplyView

abbrev pub reply_view : Reply → ReplyView
reply_view (Gives text) = given text.now
reply_view (Prints text) = printed text.now

-- the view of a stored reply
abbrev pub reply_of : OwnedReply → ReplyView
reply_of (owned.Gives text) = given (string_bytes text)
reply_of (owned.Prints text) = printed (string_bytes text)
