use Rattle.hb_check.specs.Growing.{AreUnreached}
use Rattle.hb_check.proofs.chains.unreached.Given as goal

abbrev pub invariant-templates : goal.invariant-templates
invariant-templates l = AreUnreached l.ways.items
