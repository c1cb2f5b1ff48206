use Rattle.std.proofs.Common.{Ok, ap}
use Rattle.std.proofs.lemmas.Result.{err_from_is_err_and}
use Rattle.handlebars_template.specs.TreeView.{tree_view}
use Rattle.handlebars.proofs.ReadFiles.{into-one, fails-one, fails-after}
use Rattle.handlebars.proofs.registry.RegistryOf.read_into.Goals as goal

pub returns-in_err-template-clause-err : goal.returns-in_err-template-clause-err
returns-in_err-template-clause-err g c =
    let p = err_from_is_err_and c.from_residual.result c.from_residual.ensures.1 in
    rw (p.1, p.2) (fails-one _ _ c.args.name.now c.args.path.now _ c.in_err-template.ensures.err)

pub returns-in_err-put-clause-err : goal.returns-in_err-put-clause-err
returns-in_err-put-clause-err g c =
    let p = err_from_is_err_and c.from_residual-in_err-put.result c.from_residual-in_err-put.ensures.1 in
    rw p.1 (fails-after _ _ c.args.name.now c.args.path.now _ (Ok (tree_view c.in_ok-template.template)) (ap (λ r. r.reason) p.2)
    c.in_ok-template.ensures.ok)

pub returns-clause-ok : goal.returns-clause-ok
returns-clause-ok g c = into-one _ _ c.args.name.now c.args.path.now (tree_view c.in_ok-template.template) c.args.trees.now c.put.new.trees
    c.in_ok-template.ensures.ok c.in_ok-put.ensures
