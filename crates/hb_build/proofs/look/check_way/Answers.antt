use Rattle.std.proofs.Common.{arith}
use Rattle.hb_build.specs.Entries.{IsFolderOrFree}
use Rattle.hb_build.proofs.Folders.{at_each_folder}
use Rattle.hb_build.proofs.Ways.{IsFileOrFree-from}
use Rattle.hb_build.proofs.look.check_way.Goals as goal

pub returns-clause-ok : goal.returns-clause-ok
returns-clause-ok g c = λ reliable.
    let name = c.args.name.now in
    let entries = g.S.Store.entries in
    let was = c.in_ok-has_file.ensures.preserved.was_reliable reliable in
    record {
      at_path = IsFileOrFree-from c.in_ok-has_file.field-0 (entries c.loop-end.store name) (entries c.args.store.now name)
          (c.loop-end.invariant.kept.change was name) (c.in_ok-has_file.ensures.ok reliable);
      at_folders = at_each_folder (λ f. IsFolderOrFree (entries c.args.store.now f)) name
          (λ j l. c.loop-end.invariant.free was j (omega arith));
    }
