use Rattle.std.proofs.Common.{length, ◌-◌, ◌≡◌, ◌<◌, ◌≤◌, ℕ, get_or, true}
use Rattle.handlebars_helpers.specs.SafeUrl.{may_be_of_scheme}
use Rattle.handlebars_helpers.proofs.safe_url.scheme_len.Given as goal

abbrev pub invariant-loop-n : goal.invariant-loop-n
invariant-loop-n l = record { within : l.n ≤ length l.bytes; pass : (k : ℕ) → k < l.n → may_be_of_scheme (get_or l.bytes k 0) ≡ true }

abbrev pub decreases-loop-n : goal.decreases-loop-n
decreases-loop-n l = length l.bytes - l.n
