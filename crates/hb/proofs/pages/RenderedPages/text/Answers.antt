use Rattle.hb.proofs.Reported.{holds_of_fault}
use Rattle.hb.proofs.pages.RenderedPages.text.Goals as goal

pub returns-in-Err : goal.returns-in-Err
returns-in-Err g c = holds_of_fault c.in-Err.failure c.without_prefix.result _ c.without_prefix.ensures c.in-Err.ensures.err
