use Rattle.std.proofs.Common.{◌≡◌, Some, rules}
use Rattle.serde_json.specs.View.{view}
use Rattle.handlebars_base.specs.Answers.{gives}
use Rattle.handlebars_scope.specs.Resolve.{value_at}
use Rattle.handlebars_scope.specs.ResolutionView.{names_in}
use Rattle.handlebars_scope.proofs.Resolutions.{value_at-append, value_at-on}
use Rattle.handlebars_scope.proofs.context.walk.along_all.Goals as goal

pub returns-in-Value : goal.returns-in-Value
returns-in-Value c =
    let base : value_at (view c.args.given.now) (names_in c.args.base.now)
    ≡ gives (Some (view c.in-Value.at_base.now)) = search rules in
    rw (value_at-on _ _ _ _ base) (search rules)

pub returns-in_default : goal.returns-in_default
returns-in_default c = rw (value_at-append _ _ _) (search rules)
