use Rattle.handlebars_layers.specs.LayerView.{chain_of}
use Rattle.handlebars_layers.specs.PartialsView.{partials_of}
use Rattle.handlebars_layers.proofs.InnermostFrame.{entered-with-none}
use Rattle.handlebars_layers.proofs.Settings.{deeper-dropped, outer-kept}
use Rattle.handlebars_layers.proofs.partials.Partials.enter.Goals as goal

pub returns-clause-entered : goal.returns-clause-entered
returns-clause-entered c =
    let new = c.drop_deeper.new.self in
    let old = c.args.self.now in
    let depth = c.args.innermost.depth in
    entered-with-none (partials_of new) (partials_of old) (chain_of c.args.innermost.nearest.now) depth c.args.innermost.deep
    (outer-kept new old depth c.drop_deeper.ensures.ground c.drop_deeper.ensures.all)
    (deeper-dropped new old depth c.drop_deeper.ensures.ground c.drop_deeper.ensures.all)

pub returns-clause-depths : goal.returns-clause-depths
returns-clause-depths c =
    outer-kept c.drop_deeper.new.self c.args.self.now c.args.innermost.depth c.drop_deeper.ensures.ground c.drop_deeper.ensures.all

pub returns-clause-deeper : goal.returns-clause-deeper
returns-clause-deeper c =
    deeper-dropped c.drop_deeper.new.self c.args.self.now c.args.innermost.depth c.drop_deeper.ensures.ground
    c.drop_deeper.ensures.all
