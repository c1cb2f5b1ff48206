use Rattle.std.proofs.lemmas.Result.{on_err_weaker, on_ok_weaker}
use Rattle.handlebars_template.specs.TreeView.{tree_view}
use Rattle.handlebars_layers.specs.LayerView.{chain_of}
use Rattle.handlebars_layers.specs.PartialsView.{partials_of}
use Rattle.handlebars_layers.proofs.InnermostFrame.{frames-not-set, frames-set}
use Rattle.handlebars_layers.proofs.partials.Partials.put.Goals as goal

pub returns-clause-ok : goal.returns-clause-ok
returns-clause-ok c =
    on_ok_weaker c.set.result
    (frames-set (partials_of c.set.new.self) (partials_of c.args.self.now) (chain_of c.args.innermost.nearest.now)
    c.args.innermost.depth c.args.innermost.deep c.args.name.now (tree_view c.args.template.value) c.set.ensures.outer)
    c.set.ensures.own

pub returns-clause-err : goal.returns-clause-err
returns-clause-err c =
    on_err_weaker c.set.result
    (frames-not-set (partials_of c.set.new.self) (partials_of c.args.self.now) (chain_of c.args.innermost.nearest.now)
    c.args.innermost.depth c.args.innermost.deep c.set.ensures.outer)
    c.set.ensures.err
