use Rattle.std.proofs.Common.{sym}
use Rattle.handlebars_base.specs.Bytes.{left_brace}
use Rattle.handlebars_base.proofs.Prefixes.{after_byte_takes}
use Rattle.handlebars_lexer.specs.KindView.{tilded}
use Rattle.handlebars_lexer.proofs.BeginningsRead.{three-none}
use Rattle.handlebars_lexer.proofs.tag.beginning.after_three.Goals as goal

pub returns-in-Some : goal.returns-in-Some
returns-in-Some c =
    let text = after_byte_takes left_brace c.args.text.now c.in-Some.after.now (sym c.in-Some.ensures) in
    rw text c.after_four.ensures

pub returns : goal.returns
returns c = three-none c.args.text.now (tilded c.tilde_at-tilde.result) c.tilde_at-tilde.ensures (sym c.in_default.ensures)
