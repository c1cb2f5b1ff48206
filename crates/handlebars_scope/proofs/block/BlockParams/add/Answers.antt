use Rattle.handlebars_scope.specs.ScopeView.{bound_of}
use Rattle.handlebars_scope.proofs.Maps.{get_by_text-put}
use Rattle.handlebars_scope.proofs.block.BlockParams.add.Goals as goal

pub returns-clause-ok : goal.returns-clause-ok
returns-clause-ok c = get_by_text-put bound_of c.args.self.now.data c.insert.new.self c.in_ok-name.name _ _
    c.in_ok-name.ensures.ok c.in_ok-insert.ensures.updates
