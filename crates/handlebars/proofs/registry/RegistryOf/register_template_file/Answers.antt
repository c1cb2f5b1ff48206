use Rattle.std.proofs.Common.{ap}
use Rattle.std.proofs.lemmas.Result.{err_from_is_err_and}
use Rattle.handlebars_template.specs.TreeView.{tree_view}
use Rattle.handlebars.specs.Files.{no_memory}
use Rattle.handlebars.proofs.Loaded.{loaded-none}
use Rattle.handlebars.proofs.Loads.{loads-alloc_fails}
use Rattle.handlebars.proofs.registry.RegistryOf.register_template_file.Goals as goal

pub returns-in_err-template-clause-err : goal.returns-in_err-template-clause-err
returns-in_err-template-clause-err g c =
    let p = err_from_is_err_and c.from_residual.result c.from_residual.ensures.1 in
    rw (p.1, p.2) c.in_err-template.ensures.err

pub returns-in_err-template-clause-unchanged : goal.returns-in_err-template-clause-unchanged
returns-in_err-template-clause-unchanged g c =
    let p = err_from_is_err_and c.from_residual.result c.from_residual.ensures.1 in
    rw p.1 (loaded-none _)

pub returns-in_err-register_file-clause-err : goal.returns-in_err-register_file-clause-err
returns-in_err-register_file-clause-err g c =
    let p = err_from_is_err_and c.from_residual-in_err-register_file.result c.from_residual-in_err-register_file.ensures.1 in
    rw p.1 (no_memory, ap (λ r. r.reason) p.2, loads-alloc_fails _ _ _ _ _ _ _ c.in_ok-template.ensures.ok)

pub returns-clause-ok : goal.returns-clause-ok
returns-clause-ok g c = (tree_view c.in_ok-template.template, c.in_ok-template.ensures.ok, c.in_ok-register_file.ensures.ok)
