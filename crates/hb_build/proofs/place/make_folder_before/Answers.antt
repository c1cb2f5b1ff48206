use Rattle.std.proofs.Common.{◌≡◌, ◌∙◌, ap, sym, get_or, refl, arith, subst}
use Rattle.std.proofs.lemmas.Result.{IfErr-weaker}
use Rattle.hb_build.specs.Entries.{MakesFolders, IsFolderOrFree}
use Rattle.hb_build.specs.Name.{IsFolderOf}
use Rattle.hb_build.specs.Passes.{HasNoFolder, IsWayCause}
use Rattle.hb_build.proofs.Folders.{IsFolderOf-range, IsFolderOf-trans, folder_at}
use Rattle.hb_build.proofs.FolderNames.{IsAcceptable-folder}
use Rattle.hb_build.proofs.Making.{Changes-weaker, MakesFolders-weaker}
use Rattle.hb_build.proofs.Ways.{IsWayCause-weaker}
use Rattle.hb_build.proofs.place.make_folder_before.Goals as goal

pub make_folder-requires-clause-acceptable : goal.make_folder-requires-clause-acceptable
make_folder-requires-clause-acceptable g c =
    let name = c.args.name.now in
    let is_folder = IsFolderOf-range name name c.args.end c.range.result.now refl c.requires.within
    (ap (λ xs. get_or xs c.args.end 0) (sym c.as_bytes.ensures.value) ∙ c.if-as_bytes-end-ne47.false) c.range.ensures.value in
    IsAcceptable-folder c.range.result.now name is_folder c.requires.acceptable

pub make_folder-requires-clause-folders : goal.make_folder-requires-clause-folders
make_folder-requires-clause-folders g c = λ r f h.
    let name = c.args.name.now in
    let folder = c.range.result.now in
    let is_folder = IsFolderOf-range name name c.args.end folder refl c.requires.within
    (ap (λ xs. get_or xs c.args.end 0) (sym c.as_bytes.ensures.value) ∙ c.if-as_bytes-end-ne47.false) c.range.ensures.value in
    c.requires.folders r f (IsFolderOf-trans f folder name h is_folder) (let at = folder_at f folder h in omega (arith, at.0, c.range.ensures.len))

pub returns-clause-made : goal.returns-clause-made
returns-clause-made g c =
    let name = c.args.name.now in
    let folder = c.range.result.now in
    let is_folder = IsFolderOf-range name name c.args.end folder refl c.requires.within
    (ap (λ xs. get_or xs c.args.end 0) (sym c.as_bytes.ensures.value) ∙ c.if-as_bytes-end-ne47.false) c.range.ensures.value in
    Changes-weaker g.S.Store (MakesFolders (λ q. q ≡ folder)) (MakesFolders (λ q. IsFolderOf q name)) c.args.store.now c.make_folder.new.store
    (λ x y. MakesFolders-weaker (λ q. q ≡ folder) (λ q. IsFolderOf q name) x y (λ q e. subst (λ z. IsFolderOf z name) (sym e) is_folder)) c.make_folder.ensures.made

pub returns-clause-err : goal.returns-clause-err
returns-clause-err g c =
    let name = c.args.name.now in
    let folder = c.range.result.now in
    let is_folder = IsFolderOf-range name name c.args.end folder refl c.requires.within
    (ap (λ xs. get_or xs c.args.end 0) (sym c.as_bytes.ensures.value) ∙ c.if-as_bytes-end-ne47.false) c.range.ensures.value in
    let blocked = g.S.Store.reliable c.make_folder.new.store → IsFolderOrFree (g.S.Store.entries c.args.store.now folder) → ⊥ in
    IfErr-weaker c.make_folder.result (IsWayCause g.S.Store ⊥ blocked) (IsWayCause g.S.Store ⊥ (HasNoFolder g.S.Store c.args.store.now c.make_folder.new.store name))
    (λ cause. IsWayCause-weaker g.S.Store cause (λ h. h) (λ h r. (folder, is_folder, h r))) c.make_folder.ensures.err
