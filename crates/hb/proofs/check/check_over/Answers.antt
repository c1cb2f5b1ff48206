use Rattle.hb.proofs.check.check_over.Goals as goal

pub returns-clause-ok : goal.returns-clause-ok
returns-clause-ok g c =
    let checks = c.in_ok-status.ensures.ok in
    (c.in_ok-gathered.gathered, c.in_ok-gathered.ensures, checks.0, checks.1, checks.2, checks.3)
