use Rattle.std.proofs.lemmas.Result.{on_ok_weaker}
use Rattle.handlebars_lexer.specs.TrimView.{control_view}
use Rattle.handlebars_template.specs.TreeView.{position_of}
use Rattle.handlebars_template.proofs.TagsBuilt.{AppliesPiece-chains}
use Rattle.handlebars_template.proofs.template.tags.chain.Goals as goal

-- There is an expression, so the opening of the tag was built.
pub returns-in-None : goal.returns-in-None
returns-in-None c options expression rest is may = absurd (rw c.in-None.is at c.in_ok-built.ensures expression rest is)

pub returns-in-Some : goal.returns-in-Some
returns-in-Some c = on_ok_weaker c.chain.result (λ does options expression rest is. AppliesPiece-chains c.args.nesting.now c.chain.new.self (position_of c.args.at) (control_view c.args.control) expression c.in-Some.built (rw c.in-Some.is at c.in_ok-built.ensures expression rest is) does) c.chain.ensures
