use Rattle.std.proofs.Common.{◌≡◌, Some, arith, length-append, rules}
use Rattle.serde_json.specs.View.{view}
use Rattle.handlebars_base.specs.Answers.{gives}
use Rattle.handlebars_base.specs.PathView.{segments_of}
use Rattle.handlebars_scope.specs.Resolve.{names_of, value_at}
use Rattle.handlebars_scope.specs.ResolutionView.{names_in}
use Rattle.handlebars_scope.proofs.Resolutions.{value_at-append, value_at-on}
use Rattle.handlebars_scope.proofs.context.members.enter.Goals as goal

pub returns-in-Value-default-clause-reached : goal.returns-in-Value-default-clause-reached
returns-in-Value-default-clause-reached c =
    let bound : value_at (view c.args.node.now) (names_in c.args.bound.now)
    ≡ gives (Some (view c.in-Value-default.at_bound.now)) = search rules in
    rw (value_at-on _ _ _ _ bound) (search rules)

pub returns-in_default : goal.returns-in_default
returns-in_default c = record {
  reached = rw (value_at-append _ _ _) (search rules);
  looked_up = omega (
    arith,
    c.along_names.ensures.looked_up,
    length-append (names_in c.args.bound.now) (names_of (segments_of c.args.rest.now)),
  );
}
