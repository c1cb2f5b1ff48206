use Rattle.std.proofs.Common.{Some, sym, ap, ◌∙◌}
use Rattle.handlebars_lexer.specs.Kind.{TagBeginning}
use Rattle.handlebars_lexer.specs.KindView.{tilded}
use Rattle.handlebars_lexer.proofs.BeginningsRead.{four-slash, four-none}
use Rattle.handlebars_lexer.proofs.tag.beginning.after_four.Goals as goal

pub returns-in-Some : goal.returns-in-Some
returns-in-Some c =
    four-slash c.args.text.now c.in-Some.after.now (tilded c.tilde_at-tilde.result) c.tilde_at-tilde.ensures (sym c.in-Some.ensures)
    ∙ sym (ap (λ (b : TagBeginning). Some b) c.marked.ensures)

pub returns-in-None : goal.returns-in-None
returns-in-None c = four-none c.args.text.now (tilded c.tilde_at-tilde.result) c.tilde_at-tilde.ensures (sym c.in-None.ensures)
