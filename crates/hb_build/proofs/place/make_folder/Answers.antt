use Rattle.hb_build.proofs.Making.{MakesFolders-put}
use Rattle.hb_build.proofs.place.make_folder.Goals as goal

pub returns-in-Ok-clause-made : goal.returns-in-Ok-clause-made
returns-in-Ok-clause-made g c =
    let entries = g.S.Store.entries in
    let path = c.args.path.now in
    let kept = c.in_ok-has_folder.ensures.preserved in
    record {
      was_reliable = λ r. kept.was_reliable (c.in-Ok.ensures.was r);
      change = λ r. MakesFolders-put path (entries c.args.store.now) (entries c.has_folder.new.store) (entries c.make_folder.new.self)
          (kept.change (c.in-Ok.ensures.was r)) (rw c.if-branch.false at (c.in_ok-has_folder.ensures.ok (c.in-Ok.ensures.was r))) (c.in-Ok.ensures.put r);
    }
