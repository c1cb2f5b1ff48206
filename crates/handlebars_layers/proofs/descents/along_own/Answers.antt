use Rattle.std.proofs.Common.{◌++◌}
use Rattle.handlebars_base.specs.PathView.{segments_of}
use Rattle.handlebars_scope.specs.Resolve.{names_of}
use Rattle.handlebars_scope.specs.ResolutionView.{names_in}
use Rattle.handlebars_layers.specs.LayerView.{after_of}
use Rattle.handlebars_layers.specs.declared.layer.Descent.{out-Descent}
use Rattle.handlebars_layers.proofs.DescentNames.{names-in-order}
use Rattle.handlebars_layers.proofs.descents.along_own.Goals as goal

pub returns : goal.returns
returns c = λ d walked.
    let b = c.args.descent.now in
    c.along_last.ensures d ((after_of b ++ names_in (out-Descent b).bound.now) ++ names_of (segments_of (out-Descent b).rest.now))
    (names-in-order b) (c.along_segments-rest.ensures d (c.along_names-bound.ensures d walked))
