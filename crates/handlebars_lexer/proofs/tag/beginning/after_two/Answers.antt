use Rattle.std.proofs.Common.{◌∙◌, arith}
use Rattle.handlebars_lexer.proofs.BeginningsRead.{two-none, two-comment, two-byte}
use Rattle.handlebars_lexer.proofs.tag.beginning.after_two.Goals as goal

pub returns-in_default : goal.returns-in_default
returns-in_default c = two-none c.args.text.now c.in_default.ensures ∙ c.tilded_at.ensures

pub returns-in-123 : goal.returns-in-123
returns-in-123 c = rw (c.in-Some.ensures, c.in-123.is) c.after_three.ensures

pub returns-in-33 : goal.returns-in-33
returns-in-33 c = rw (c.in-Some.ensures, c.in-33.is) (two-comment c.in-Some.after.now)

pub returns-in_default-mark : goal.returns-in_default-mark
returns-in_default-mark c =
    rw c.in-Some.ensures (two-byte c.in-Some.mark c.in-Some.after.now (omega arith) (omega arith) ∙ rw c.in-Some.ensures at c.tilded_at-in_default-mark.ensures)
