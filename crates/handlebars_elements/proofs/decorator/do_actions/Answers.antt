use Rattle.std.proofs.Common.{◌∙◌, sym, ap, map, length, arith}
use Rattle.handlebars_helpers.specs.DecoratorsView.{action_of, tag_view}
use Rattle.handlebars_expand.specs.Boxed.{error_of}
use Rattle.handlebars_values.specs.View.{setting_in}
use Rattle.handlebars_elements.proofs.RunChanges.{unchanged-refl, unchanged-trans}
use Rattle.handlebars_write.proofs.UserSteps.{nothing_left}
use Rattle.handlebars_elements.proofs.Silent.{actions-end, actions-go, actions-over}
use Rattle.handlebars_elements.proofs.decorator.do_actions.Goals as goal

pub returns-in-Err-clause-does : goal.returns-in-Err-clause-does
returns-in-Err-clause-does g c = λ captured.
    rw (sym c.into_iter-action-iterator.ensures.into_iter_gives.0)
    (actions-over (setting_in g.P.Registered.parts c.args.environment.now) (tag_view c.args.tag.now).body _ (error_of c.in-Err.e) (ap (map action_of) c.in-Some.ensures.steps.0)
    (c.actions.invariant.left captured) (c.in-Err.ensures.does captured))

pub actions-init : goal.actions-init
actions-init g c = record {
  left = λ captured k ps o r. r;
  sized = c.into_iter-action-iterator.ensures.into_iter_gives.1 ∙ c.args.actions.ok.0
      ∙ ap length (sym c.into_iter-action-iterator.ensures.into_iter_gives.0);
  unchanged = unchanged-refl _;
}

pub actions-preserved : goal.actions-preserved
actions-preserved g c =
    let was = c.actions.invariant.sized in
    let gone = c.in-Some.ensures.steps.1 in
    let short = ap length c.in-Some.ensures.steps.0 in
    record {
      left = λ captured. actions-go (setting_in g.P.Registered.parts c.args.environment.now) (tag_view c.args.tag.now).body _ (ap (map action_of) c.in-Some.ensures.steps.0)
          (c.actions.invariant.left captured) (c.in_default.ensures.does captured);
      sized = omega arith;
      unchanged = unchanged-trans c.actions.invariant.unchanged c.in_default.ensures.unchanged;
    }

pub returns-clause-does : goal.returns-clause-does
returns-clause-does g c = λ captured.
    rw (sym c.into_iter-action-iterator.ensures.into_iter_gives.0)
    (actions-end (setting_in g.P.Registered.parts c.args.environment.now) (tag_view c.args.tag.now).body _
    (ap (map action_of) (nothing_left _ (sym c.actions.invariant.sized ∙ c.in-None.ensures.steps.0)))
    (c.actions.invariant.left captured))
