use Rattle.std.proofs.lemmas.Result.{on_ok_weaker}
use Rattle.handlebars_lexer.specs.TrimView.{control_view}
use Rattle.handlebars_template.specs.TreeView.{position_of}
use Rattle.handlebars_template.specs.NestView.{kind_view}
use Rattle.handlebars_template.proofs.TagsBuilt.{AppliesPiece-opens}
use Rattle.handlebars_template.proofs.template.tags.begin.Goals as goal

-- There is an expression, so the opening of the tag was built.
pub returns-in-None : goal.returns-in-None
returns-in-None c expression rest is may = absurd (rw c.in-None.is at c.in_ok-built.ensures expression rest is)

pub returns-in-Some : goal.returns-in-Some
returns-in-Some c = on_ok_weaker c.begin.result (λ does expression rest is. AppliesPiece-opens c.args.nesting.now c.begin.new.self (position_of c.args.at) (control_view c.args.control) expression (kind_view c.args.kind) c.in-Some.built (rw c.in-Some.is at c.in_ok-built.ensures expression rest is) does) c.begin.ensures
