use Rattle.std.proofs.lemmas.Result.{IfOk-weaker, IfErr-weaker}
use Rattle.handlebars_template.specs.TreeView.{tree_view}
use Rattle.handlebars.proofs.Loads.{load-compiled, load-rejected, load-unread}
use Rattle.handlebars.proofs.registry.RegistryOf.read_template.Goals as goal

pub returns-in-Ok-clause-ok : goal.returns-in-Ok-clause-ok
returns-in-Ok-clause-ok g c = IfOk-weaker c.compiled_as.result _ _
    (λ t is. load-compiled _ _ c.args.name.now c.args.path.now _ _ (tree_view t) c.in-Ok.source c.as_str.result.now c.as_str.ensures.value
    c.in-Ok.ensures is) c.compiled_as.ensures.ok

pub returns-in-Ok-clause-err : goal.returns-in-Ok-clause-err
returns-in-Ok-clause-err g c = IfErr-weaker c.compiled_as.result _ _
    (λ e is. load-rejected _ _ c.args.name.now c.args.path.now _ _ e c.in-Ok.source c.as_str.result.now c.as_str.ensures.value
    c.in-Ok.ensures is) c.compiled_as.ensures.err

pub returns-in-Err-clause-err : goal.returns-in-Err-clause-err
returns-in-Err-clause-err g c = load-unread _ _ c.args.name.now c.args.path.now _ _ c.unread.result c.in-Err.cause c.in-Err.ensures c.unread.ensures.refusal
