use Rattle.hb_check.proofs.Cleanness.{clean-report}
use Rattle.hb_check.proofs.laws.clean_report.Goals as goal

pub returns : goal.returns
returns g c = clean-report _ _ _ _ c.requires.clean c.requires.report
