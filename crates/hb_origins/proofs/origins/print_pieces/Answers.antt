use Rattle.hb_origins.proofs.Emitted.{ends_failed, ends_well, ends_written, fails_so}
use Rattle.hb_origins.proofs.origins.print_pieces.Goals as goal

pub returns-in-Ok : goal.returns-in-Ok
returns-in-Ok g c = ends_written _ _ _ _ _ _ c.written.ensures (ends_well _ _ _ _ _ _ _ _ _ _ _ _ c.in-Ok.ensures.emits)

pub returns-in-Err : goal.returns-in-Err
returns-in-Err g c = ends_failed _ _ _ _ _ c.in-Err.cause _ c.ended.ensures (fails_so _ _ _ _ _ _ _ _ _ _ _ _ c.in-Err.ensures.emits)
