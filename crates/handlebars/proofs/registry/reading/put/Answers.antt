use Rattle.std.proofs.Common.{refl}
use Rattle.handlebars_template.specs.TreeView.{tree_view}
use Rattle.handlebars.proofs.Stored.{get_by_text-insert}
use Rattle.handlebars.proofs.registry.reading.put.Goals as goal

pub returns : goal.returns
returns c = get_by_text-insert tree_view c.args.trees.now c.insert.new.self c.in_ok-key.key c.args.template c.args.name.now
    (tree_view c.args.template) c.in_ok-insert.ensures.updates c.in_ok-key.ensures.ok refl
