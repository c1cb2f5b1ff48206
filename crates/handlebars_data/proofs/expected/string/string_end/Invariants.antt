use Rattle.std.proofs.Common.{length, ◌-◌, ◌≤◌, ◌<◌}
use Rattle.handlebars_data.proofs.expected.string.string_end.Given as goal

abbrev pub invariant-characters : goal.invariant-characters
invariant-characters l = (l.at < l.next) × (l.next ≤ length l.text)

abbrev pub decreases-characters : goal.decreases-characters
decreases-characters l = length l.text - l.next
