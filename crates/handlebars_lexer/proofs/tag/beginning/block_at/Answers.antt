use Rattle.std.proofs.Common.{Some, sym, ap, ◌∙◌, arith}
use Rattle.handlebars_lexer.specs.Kind.{TagBeginning}
use Rattle.handlebars_lexer.proofs.BeginningsRead.{block-asterisk, block-greater, block-byte, block-none}
use Rattle.handlebars_lexer.proofs.tag.beginning.block_at.Goals as goal

pub returns-in_default : goal.returns-in_default
returns-in_default c = block-none c.args.tilde c.args.text.now c.in_default.ensures ∙ sym (ap (λ (b : TagBeginning). Some b) c.marked.ensures)

pub returns-in-42 : goal.returns-in-42
returns-in-42 c = rw (c.in-Some.ensures, c.in-42.is) (block-asterisk c.args.tilde c.in-Some.inside.now ∙ sym (ap (λ (b : TagBeginning). Some b) c.marked-in-42.ensures))

pub returns-in-62 : goal.returns-in-62
returns-in-62 c = rw (c.in-Some.ensures, c.in-62.is) (block-greater c.args.tilde c.in-Some.inside.now ∙ sym (ap (λ (b : TagBeginning). Some b) c.marked-in-62.ensures))

pub returns-in_default-sign : goal.returns-in_default-sign
returns-in_default-sign c =
    rw c.in-Some.ensures (block-byte c.args.tilde c.in-Some.sign c.in-Some.inside.now (omega arith) (omega arith))
    ∙ sym (ap (λ (b : TagBeginning). Some b) c.marked-in_default-sign.ensures)
