use Rattle.std.proofs.Common.{◌∙◌}
use Rattle.handlebars_layers.specs.LayerView.{chain_of}
use Rattle.handlebars_layers.proofs.Finding.{layers-have, layers-lack}
use Rattle.handlebars_layers.proofs.partials.Partials.find.Goals as goal

pub returns-in-Some : goal.returns-in-Some
returns-in-Some c =
    layers-have c.args.self.now (chain_of c.args.innermost.nearest.now) c.args.innermost.depth c.args.name.now c.args.innermost.deep _
    c.in-Some.ensures

pub returns-in-None : goal.returns-in-None
returns-in-None c =
    c.get_outside.ensures
    ∙ layers-lack c.args.self.now (chain_of c.args.innermost.nearest.now) c.args.innermost.depth c.args.name.now
    c.args.innermost.deep c.in-None.ensures
