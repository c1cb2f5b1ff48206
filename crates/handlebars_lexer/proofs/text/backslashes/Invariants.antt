use Rattle.std.proofs.Common.{length, ◌-◌, ◌≡◌, ◌<◌, ◌≤◌, ℕ, get_or, true}
use Rattle.handlebars_lexer.specs.Text.{is_backslash}
use Rattle.handlebars_lexer.proofs.text.backslashes.Given as goal

abbrev pub invariant-run : goal.invariant-run
invariant-run l = record { within : l.n ≤ length l.text; pass : (k : ℕ) → k < l.n → is_backslash (get_or l.text k 0) ≡ true }

abbrev pub decreases-run : goal.decreases-run
decreases-run l = length l.text - l.n
