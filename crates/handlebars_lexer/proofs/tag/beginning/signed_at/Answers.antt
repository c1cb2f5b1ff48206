use Rattle.std.proofs.Common.{Some, sym, ap, ◌∙◌, arith}
use Rattle.handlebars_lexer.specs.Kind.{TagBeginning}
use Rattle.handlebars_lexer.proofs.BeginningsRead.{sign-ampersand, sign-slash, sign-caret, sign-asterisk, sign-greater, sign-e, sign-byte, sign-none}
use Rattle.handlebars_lexer.proofs.tag.beginning.signed_at.Goals as goal

pub returns-in_default : goal.returns-in_default
returns-in_default c = sign-none c.args.tilde c.args.text.now c.in_default.ensures ∙ sym (ap (λ (b : TagBeginning). Some b) c.unsigned.ensures)

pub returns-in-38 : goal.returns-in-38
returns-in-38 c = rw (c.in-Some.ensures, c.in-38.is) (sign-ampersand c.args.tilde c.in-Some.after.now ∙ sym (ap (λ (b : TagBeginning). Some b) c.marked.ensures))

pub returns-in-47 : goal.returns-in-47
returns-in-47 c = rw (c.in-Some.ensures, c.in-47.is) (sign-slash c.args.tilde c.in-Some.after.now ∙ sym (ap (λ (b : TagBeginning). Some b) c.marked-in-47.ensures))

pub returns-in-94 : goal.returns-in-94
returns-in-94 c = rw (c.in-Some.ensures, c.in-94.is) (sign-caret c.args.tilde c.in-Some.after.now ∙ sym (ap (λ (b : TagBeginning). Some b) c.marked-in-94.ensures))

pub returns-in-42 : goal.returns-in-42
returns-in-42 c = rw (c.in-Some.ensures, c.in-42.is) (sign-asterisk c.args.tilde c.in-Some.after.now ∙ sym (ap (λ (b : TagBeginning). Some b) c.marked-in-42.ensures))

pub returns-in-62 : goal.returns-in-62
returns-in-62 c = rw (c.in-Some.ensures, c.in-62.is) (sign-greater c.args.tilde c.in-Some.after.now ∙ sym (ap (λ (b : TagBeginning). Some b) c.marked-in-62.ensures))

pub returns-in-35 : goal.returns-in-35
returns-in-35 c = rw (c.in-Some.ensures, c.in-35.is) c.block_at.ensures

pub returns-in-101 : goal.returns-in-101
returns-in-101 c = rw (c.in-Some.ensures, c.in-101.is) (sign-e c.args.tilde c.in-Some.after.now ∙ rw (c.in-Some.ensures, c.in-101.is) at c.worded_at.ensures)

pub returns-in_default-sign : goal.returns-in_default-sign
returns-in_default-sign c =
    rw c.in-Some.ensures (sign-byte c.args.tilde c.in-Some.sign c.in-Some.after.now (omega arith) (omega arith) (omega arith) (omega arith) (omega arith) (omega arith) (omega arith))
    ∙ sym (ap (λ (b : TagBeginning). Some b) c.unsigned-in_default-sign.ensures)
