use Rattle.std.proofs.Common.{Some, sym, ap, ◌∙◌}
use Rattle.handlebars_lexer.specs.Kind.{TagBeginning}
use Rattle.handlebars_lexer.specs.KindView.{tilded}
use Rattle.handlebars_lexer.proofs.BeginningsRead.{two-read}
use Rattle.handlebars_lexer.proofs.tag.beginning.tilded_at.Goals as goal

pub returns-then-not-tilde : goal.returns-then-not-tilde
returns-then-not-tilde c = (two-read c.args.text.now (tilded c.tilde_at-tilde.result) c.tilde_at-tilde.ensures).plain c.if-not-tilde.true ∙ c.signed_at.ensures

pub returns-in-Some : goal.returns-in-Some
returns-in-Some c =
    (two-read c.args.text.now (tilded c.tilde_at-tilde.result) c.tilde_at-tilde.ensures).brace c.in-Some.after.now c.if-not-tilde.false (sym c.in-Some.ensures)
    ∙ sym (ap (λ (b : TagBeginning). Some b) c.marked.ensures)

pub returns-in-None : goal.returns-in-None
returns-in-None c =
    (two-read c.args.text.now (tilded c.tilde_at-tilde.result) c.tilde_at-tilde.ensures).other c.if-not-tilde.false (sym c.in-None.ensures)
    ∙ c.signed_at-in-None.ensures
