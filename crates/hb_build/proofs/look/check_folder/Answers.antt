use Rattle.std.proofs.Common.{◌∙◌, ap, sym, get_or, refl}
use Rattle.std.proofs.lemmas.Result.{err_from_is_err_and}
use Rattle.hb_build.proofs.Folders.{IsFolderOf-range}
use Rattle.hb_build.proofs.FolderNames.{IsAcceptable-folder}
use Rattle.hb_build.proofs.Ways.{IsWayCause-weaker}
use Rattle.hb_build.proofs.look.check_folder.Goals as goal

pub has_folder-requires : goal.has_folder-requires
has_folder-requires g c =
    let name = c.args.name.now in
    let is_folder = IsFolderOf-range name name c.args.end c.range.result.now refl c.requires.within
    (ap (λ xs. get_or xs c.args.end 0) (sym c.as_bytes.ensures.value) ∙ c.if-as_bytes-end-ne47.false) c.range.ensures.value in
    IsAcceptable-folder c.range.result.now name is_folder c.requires.acceptable

pub returns-in_err-has_folder-clause-err : goal.returns-in_err-has_folder-clause-err
returns-in_err-has_folder-clause-err g c =
    let name = c.args.name.now in
    let folder = c.range.result.now in
    let is_folder = IsFolderOf-range name name c.args.end folder refl c.requires.within
    (ap (λ xs. get_or xs c.args.end 0) (sym c.as_bytes.ensures.value) ∙ c.if-as_bytes-end-ne47.false) c.range.ensures.value in
    let p = err_from_is_err_and c.from_residual.result c.from_residual.ensures.1 in
    rw (p.1, p.2) (IsWayCause-weaker g.S.Store c.in_err-has_folder.field-0.0 (λ h. h) (λ h reliable. (folder, is_folder, h reliable))
    c.in_err-has_folder.ensures.err)
