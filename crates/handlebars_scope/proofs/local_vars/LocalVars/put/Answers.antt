use Rattle.serde_json.specs.View.{view}
use Rattle.handlebars_scope.proofs.Maps.{get_by_text-put}
use Rattle.handlebars_scope.proofs.local_vars.LocalVars.put.Goals as goal

pub returns-clause-ok : goal.returns-clause-ok
returns-clause-ok c = get_by_text-put view c.args.self.now.by_name c.insert.new.self c.in_ok-name.name _ _
    c.in_ok-name.ensures.ok c.in_ok-insert.ensures.updates
