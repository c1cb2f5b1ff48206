use Rattle.std.proofs.Common.{length, ◌-◌, ◌≡◌, ◌<◌, ◌≤◌, ℕ, get_or, true}
use Rattle.handlebars_expressions.specs.CloseName.{is_close_symbol}
use Rattle.handlebars_expressions.proofs.expression.close_name.close_symbols_len.Given as goal

abbrev pub invariant-symbols : goal.invariant-symbols
invariant-symbols l = record { within : l.n ≤ length l.bytes; pass : (k : ℕ) → k < l.n → is_close_symbol (get_or l.bytes k 0) ≡ true }

abbrev pub decreases-symbols : goal.decreases-symbols
decreases-symbols l = length l.bytes - l.n
