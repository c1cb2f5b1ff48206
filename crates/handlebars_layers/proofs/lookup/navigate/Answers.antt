use Rattle.std.proofs.Common.{◌≡◌, ◌∙◌, false, subst, sym}
use Rattle.handlebars_base.specs.PathView.{segments_of}
use Rattle.handlebars_layers.specs.Binding.{MayBind}
use Rattle.handlebars_layers.specs.Chain.{frames}
use Rattle.handlebars_layers.specs.Destination.{frames_in, given_in}
use Rattle.handlebars_layers.specs.LayerView.{chain_of}
use Rattle.handlebars_layers.proofs.Destinations.{destination-at}
use Rattle.handlebars_layers.proofs.Unbound.{navigate-unbound, unbound-skip}
use Rattle.handlebars_layers.proofs.lookup.navigate.Goals as goal
use Rattle.handlebars_layers.proofs.lookup.navigate.Goals.{then-recursive, else-recursive}

pub returns-else-scopes : goal.returns-else-scopes
returns-else-scopes c =
    let scopes = c.args.scopes in
    let chain = chain_of scopes.nearest.now in
    let both : (c.args.recursive ≡ false) × (scopes.binds ≡ false) = elim c.if-recursive.branch [
      | then-recursive w ↦ absurd (cc)
      | else-recursive w ↦ (w.if-recursive.false, sym w.value-is ∙ c.if-scopes.false)
    ] in
    destination-at _ _ c.navigate_unbound.result
    (navigate-unbound c.args.recursive (frames_in scopes) (segments_of c.args.segments.now) (given_in scopes) both.0
    (unbound-skip chain scopes.skipped (subst (λ b. MayBind b (frames chain)) both.1 scopes.unbound)))
    c.navigate_unbound.ensures
