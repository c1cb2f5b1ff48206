use Rattle.std.proofs.Common.{length, ◌-◌, ◌≡◌, ◌<◌, ◌≤◌, ℕ, get_or, true}
use Rattle.handlebars_syntax.specs.Range.{is_in_line}
use Rattle.handlebars_syntax.proofs.range.line_len.Given as goal

abbrev pub invariant-line : goal.invariant-line
invariant-line l = record { within : l.n ≤ length l.text; pass : (k : ℕ) → k < l.n → is_in_line (get_or l.text k 0) ≡ true }

abbrev pub decreases-line : goal.decreases-line
decreases-line l = length l.text - l.n
