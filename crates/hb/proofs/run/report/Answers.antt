use Rattle.std.proofs.Common.{ℕ, ◌≤◌, sym, subst}
use Rattle.hb.proofs.Statuses.{status-most}
use Rattle.hb.proofs.run.report.Goals as goal

pub returns-clause-most : goal.returns-clause-most
returns-clause-most g c = subst (λ (n : ℕ). n ≤ 2) (sym c.status.ensures) (status-most _)
