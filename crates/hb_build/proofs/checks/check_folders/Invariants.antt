use Rattle.std.proofs.Common.{◌≡◌, ℕ, ◌<◌, None, get_or, take}
use Rattle.hb_build.specs.Numbers.{number_in}
use Rattle.hb_build.proofs.checks.check_folders.Given as goal

-- no folder so far is the name of a file
abbrev pub invariant-loop-end : goal.invariant-loop-end
invariant-loop-end l = (j : ℕ) → j < l.end → get_or l.name j 0 ≡ 47 → number_in l.numbers (take j l.name) ≡ None
