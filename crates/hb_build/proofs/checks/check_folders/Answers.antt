use Rattle.std.proofs.Common.{◌≡◌, ◌∙◌, ◌<◌, length, None, Some, arith, sym, ap, string_bytes, take, get_or}
use Rattle.hb_build.specs.Numbers.{number_in}
use Rattle.hb_build.proofs.Folders.{at_each_folder, IsFolderOf-take, slice_range-front}
use Rattle.hb_build.proofs.checks.check_folders.Goals as goal

pub returns-in-Some-clause-err : goal.returns-in-Some-clause-err
returns-in-Some-clause-err c = λ names n at.
    let name = c.args.name.now in
    let end = c.loop-end.end in
    let folder : string_bytes c.in_ok-from_str.field-0 ≡ take end name = c.in_ok-from_str.ensures.ok ∙ c.range-folder.ensures.value ∙ slice_range-front name end in
    let found : number_in c.args.numbers.now (take end name) ≡ Some c.in-Some.file.now =
    ap (number_in c.args.numbers.now) (sym (c.range-folder.ensures.value ∙ slice_range-front name end)) ∙ sym c.in-Some.ensures.value in
    let within : end < length name = omega (arith, c.loop-end-test.true, c.as_bytes-byte-items.ensures.len) in
    rw folder (
      n.only (take end name) c.in-Some.file.now found,
      name,
      at,
      IsFolderOf-take name end within
          (ap (λ xs. get_or xs end 0) (sym c.as_bytes-byte-items.ensures.value) ∙ c.if-byte-eq47.true),
    )

pub returns-clause-ok : goal.returns-clause-ok
returns-clause-ok c = at_each_folder (λ f. number_in c.args.numbers.now f ≡ None) c.args.name.now
    (λ j l e. c.loop-end.invariant j (omega (arith, c.loop-end-test.false, c.as_bytes-byte-items.ensures.len)) e)
