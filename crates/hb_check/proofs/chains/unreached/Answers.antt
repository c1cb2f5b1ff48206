use Rattle.std.proofs.Common.{sym, subst}
use Rattle.hb_check.specs.Growing.{AreUnreached}
use Rattle.hb_check.proofs.Ways.{unreached-none, unreached-push}
use Rattle.hb_check.proofs.chains.unreached.Goals as goal

pub templates-init : goal.templates-init
templates-init c = subst AreUnreached (sym c.new-ways.ensures.items) unreached-none

pub templates-preserved : goal.templates-preserved
templates-preserved c =
    subst AreUnreached (sym c.in_ok-push.ensures.items) (unreached-push c.templates.ways.items c.templates.invariant)
