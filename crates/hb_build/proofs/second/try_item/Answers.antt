use Rattle.std.proofs.Common.{string_bytes, subst}
use Rattle.hb_build.specs.Items.{fate_of}
use Rattle.hb_build.specs.Passes.{IsPlaced}
use Rattle.hb_build.proofs.SecondPass.{IsFate-from}
use Rattle.hb_build.proofs.second.try_item.Goals as goal

pub returns-in-Ok : goal.returns-in-Ok
returns-in-Ok g c = (
  string_bytes c.in-Ok.text,
  IsFate-from g.P.Pages g.S.Store c.args.pages.now (string_bytes c.in-Ok.text) c.place.result c.in-Ok.ensures c.place.ensures.failed,
  subst (λ text. IsPlaced g.S.Store c.args.dry_run c.args.name.now (fate_of text c.place.result) c.args.store.now c.place.new.store)
      c.as_str.ensures.value c.place.ensures.placed,
)
