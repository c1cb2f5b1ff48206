use Rattle.std.proofs.Common.{◌∙◌}
use Rattle.std.proofs.lemmas.Result.{err_from_is_err_and}
use Rattle.hb_build.specs.Entries.{AreSame}
use Rattle.hb_build.proofs.Making.{Changes-trans}
use Rattle.hb_build.proofs.Placing.{IsPlaced-failed}
use Rattle.hb_build.proofs.place.find_and_write.Goals as goal

pub returns-in_err-write_unless-clause-err : goal.returns-in_err-write_unless-clause-err
returns-in_err-write_unless-clause-err g c =
    let p = err_from_is_err_and c.from_residual-in_err-write_unless.result c.from_residual-in_err-write_unless.ensures.1 in
    let e = c.in_err-write_unless.ensures in
    rw (p.1, p.2) (IsPlaced-failed g.S.Store c.args.name.now c.args.store.now c.has_file.new.store c.write_unless.new.store c.in_ok-has_file.ensures.preserved
    e.part c.args.dry_run c.in_err-write_unless.field-0.0 e.run e.err)

pub returns-in_err-write_unless-2-clause-err : goal.returns-in_err-write_unless-2-clause-err
returns-in_err-write_unless-2-clause-err g c =
    let p = err_from_is_err_and c.from_residual-in_err-write_unless-2.result c.from_residual-in_err-write_unless-2.ensures.1 in
    let e = c.in_err-write_unless-2.ensures in
    let kept = Changes-trans g.S.Store AreSame AreSame AreSame c.args.store.now c.has_file.new.store c.has_text.new.store
    (λ x y z h k q. k q ∙ h q) c.in_ok-has_file.ensures.preserved c.in_ok-has_text.ensures.preserved in
    rw (p.1, p.2) (IsPlaced-failed g.S.Store c.args.name.now c.args.store.now c.has_text.new.store c.write_unless-2.new.store kept
    e.part c.args.dry_run c.in_err-write_unless-2.field-0.0 e.run e.err)
