use Rattle.std.proofs.Common.{◌≡◌, length, map}
use Rattle.std.specs.Vec.Iter.{into_iter_items, into_iter_len}
use Rattle.handlebars_helpers.specs.DecoratorsView.{action_of, tag_view}
use Rattle.handlebars_values.specs.View.{setting_in, state_with, CapturedIn, within}
use Rattle.handlebars_elements.specs.View.{IsUnchanged}
use Rattle.handlebars_elements.proofs.Silent.{ActionsLeft}
use Rattle.handlebars_elements.proofs.decorator.do_actions.Given as goal

-- What the actions that are left do, all of them do.
abbrev pub invariant-actions : goal.invariant-actions
invariant-actions g l = record {
  left : (captured : CapturedIn (within l.environment)) → ActionsLeft (setting_in g.P.Registered.parts l.environment) (tag_view l.tag).body
      (map action_of (into_iter_items l.initial.action-iterator)) (map action_of (into_iter_items l.action-iterator))
      (state_with captured l.initial.run) (state_with captured l.run);
  sized : into_iter_len l.action-iterator ≡ length (into_iter_items l.action-iterator);
  unchanged : IsUnchanged l.initial.run l.run;
}
