use Rattle.std.proofs.Common.{ap}
use Rattle.handlebars_template.specs.TreeView.{tree_view}
use Rattle.handlebars_scope.specs.ScopeView.{frame_of}
use Rattle.handlebars_scope.proofs.Maps.{get_by_text-put}
use Rattle.handlebars_scope.proofs.block.BlockContext.set_local_partial.Goals as goal

pub returns-clause-ok : goal.returns-clause-ok
returns-clause-ok c = ap (λ p. record (frame_of c.args.self.now) { partial = p })
    (get_by_text-put (λ t. tree_view t.value) c.args.self.now.local_partials c.insert.new.self c.in_ok-name.name _ _
    c.in_ok-name.ensures.ok c.in_ok-insert.ensures.updates)
