use Rattle.handlebars_scope.specs.ResolutionView.{names_in}
use Rattle.handlebars_layers.proofs.Names.{reversed-path}
use Rattle.handlebars_layers.proofs.made.finished.Goals as goal

pub returns : goal.returns
returns c = reversed-path c.args.path.items c.push_names.new.path.items _ (names_in c.args.base.now)
    c.in_ok-push_names.ensures c.reverse.ensures.items
