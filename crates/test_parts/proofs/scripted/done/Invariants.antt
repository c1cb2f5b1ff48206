use Rattle.std.proofs.Common.{◌≡◌, ◌++◌, drop, map}
use Rattle.handlebars_helpers.specs.DecoratorsView.{action_of, tag_view}
use Rattle.test_parts.specs.Scripted.{action_said}
use Rattle.test_parts.proofs.scripted.done.Given as goal

abbrev pub invariant-actions : goal.invariant-actions
invariant-actions l =
    map action_of l.done.items ++ map (action_said (tag_view l.d).call) (drop l.action-index l.action-items)
    ≡ map (action_said (tag_view l.d).call) l.action-items
