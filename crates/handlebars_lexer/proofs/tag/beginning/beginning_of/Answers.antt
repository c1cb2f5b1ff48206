use Rattle.std.proofs.Common.{sym}
use Rattle.handlebars_base.specs.Bytes.{left_brace}
use Rattle.handlebars_base.proofs.Prefixes.{after_byte_takes}
use Rattle.handlebars_lexer.proofs.BeginningsRead.{none-brace, one-brace}
use Rattle.handlebars_lexer.proofs.tag.beginning.beginning_of.Goals as goal

pub returns-in_err-one : goal.returns-in_err-one
returns-in_err-one c = rw c.from_residual.ensures (sym (none-brace c.args.left.now (sym c.in_err-one.ensures)))

pub returns-in_err-two : goal.returns-in_err-two
returns-in_err-two c =
    let left = after_byte_takes left_brace c.args.left.now c.in_ok-one.one.now (sym c.in_ok-one.ensures) in
    rw (c.from_residual-in_err-two.ensures, left) (sym (one-brace c.in_ok-one.one.now (sym c.in_err-two.ensures)))

pub returns : goal.returns
returns c =
    let left = after_byte_takes left_brace c.args.left.now c.in_ok-one.one.now (sym c.in_ok-one.ensures) in
    let one = after_byte_takes left_brace c.in_ok-one.one.now c.in_ok-two.two.now (sym c.in_ok-two.ensures) in
    rw (left, one) (sym c.after_two.ensures)
