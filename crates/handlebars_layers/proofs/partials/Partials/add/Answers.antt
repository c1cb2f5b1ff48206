use Rattle.std.proofs.Common.{◌∙◌, ap, arith}
use Rattle.std.proofs.lemmas.Result.{on_ok_weaker}
use Rattle.std.specs.Prelude.{string_bytes}
use Rattle.handlebars_template.specs.TreeView.{tree_view}
use Rattle.handlebars_scope.specs.Scopes.{put_at}
use Rattle.handlebars_layers.proofs.Depths.{none-from}
use Rattle.handlebars_layers.proofs.Settings.{none-named}
use Rattle.handlebars_layers.proofs.partials.Partials.add.Goals as goal

pub returns-clause-own : goal.returns-clause-own
returns-clause-own c =
    let put = put_at (string_bytes c.args.name) (tree_view c.args.template.value) in
    on_ok_weaker c.push.result
    (λ own. own ∙ c.in_ok-set_named.ensures.ok ∙ ap put (none-named c.new-by_name.result c.new-by_name.ensures.empty))
    c.push.ensures.own

-- ---- memory runs out

pub returns-in_err-set_named-clause-deeper : goal.returns-in_err-set_named-clause-deeper
returns-in_err-set_named-clause-deeper c = λ d deep.
    none-from c.args.self.now.all.items c.args.depth d c.requires.deepest (omega arith)
