use Rattle.std.proofs.Common.{length, ◌-◌, ◌≡◌, ◌<◌, ◌≤◌, ℕ, get_or, true}
use Rattle.handlebars_lexer.proofs.Texts.{is_other}
use Rattle.handlebars_lexer.proofs.text.brace_len.Given as goal

abbrev pub invariant-others : goal.invariant-others
invariant-others l = record { within : l.n ≤ length l.text; pass : (k : ℕ) → k < l.n → is_other (get_or l.text k 0) ≡ true }

abbrev pub decreases-others : goal.decreases-others
decreases-others l = length l.text - l.n
