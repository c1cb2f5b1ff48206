use Rattle.std.proofs.Common.{subst, sym}
use Rattle.handlebars_base.specs.PathView.{segments_of}
use Rattle.handlebars_layers.specs.Binding.{MayBind}
use Rattle.handlebars_layers.specs.Chain.{frames}
use Rattle.handlebars_layers.specs.Destination.{frames_in}
use Rattle.handlebars_layers.specs.LayerView.{chain_of}
use Rattle.handlebars_layers.proofs.Unbound.{resolution-unbound, unbound-skip}
use Rattle.handlebars_layers.proofs.resolution.bound_resolution.Goals as goal

pub returns-then-not-scopes-clause-resolution : goal.returns-then-not-scopes-clause-resolution
returns-then-not-scopes-clause-resolution c =
    let chain = chain_of c.args.scopes.nearest.now in
    sym (resolution-unbound (frames_in c.args.scopes) (segments_of c.args.segments.now)
    (unbound-skip chain c.args.scopes.skipped
    (subst (λ b. MayBind b (frames chain)) c.if-not-scopes.true c.args.scopes.unbound)))
