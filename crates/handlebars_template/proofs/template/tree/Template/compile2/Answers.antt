use Rattle.handlebars_template.specs.OptionsView.{options_view}
use Rattle.handlebars_template.specs.TreeView.{position_of}
use Rattle.handlebars_template.proofs.template.tree.Template.compile2.Goals as goal

pub returns-in_ok-syntax_error-in-Unreadable-clause-err : goal.returns-in_ok-syntax_error-in-Unreadable-clause-err
returns-in_ok-syntax_error-in-Unreadable-clause-err c memory = rw (c.in_ok-syntax_error-in-Unreadable.ensures.refusal memory) (rw c.in-Unreadable.is at c.in_ok-nested.ensures)

pub returns-in_ok-syntax_error-in-Misplaced-clause-err : goal.returns-in_ok-syntax_error-in-Misplaced-clause-err
returns-in_ok-syntax_error-in-Misplaced-clause-err c memory =
    rw (c.in_ok-syntax_error-in-Misplaced.ensures.refusal memory, c.message.ensures (options_view c.args.options) (position_of c.in-Misplaced.at)) (rw c.in-Misplaced.is at c.in_ok-nested.ensures)
