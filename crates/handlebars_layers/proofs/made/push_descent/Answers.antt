use Rattle.std.proofs.Common.{Some, ◌∙◌}
use Rattle.handlebars_scope.specs.ResolutionView.{names_in}
use Rattle.handlebars_layers.proofs.DescentNames.{then-before, then-none}
use Rattle.handlebars_layers.proofs.made.push_descent.Goals as goal

pub returns-in-None : goal.returns-in-None
returns-in-None c =
    then-none (names_in c.descents.path.items) (names_in c.push_own.new.path.items) c.descents.here.now c.in-None.is
    c.in_ok-push_own.ensures
    ∙ c.descents.invariant

pub descents-preserved : goal.descents-preserved
descents-preserved c =
    then-before (names_in c.descents.path.items) (names_in c.push_own.new.path.items) c.descents.here.now
    (Some c.in-Some.after) c.in-Some.is c.in_ok-push_own.ensures
    ∙ c.descents.invariant
