use Rattle.std.proofs.Common.{◌++◌, ◌∙◌, ap, option_map, string_bytes, sym}
use Rattle.serde_json.specs.View.{view}
use Rattle.handlebars_layers.specs.Chain.{names_at}
use Rattle.handlebars_layers.specs.Destination.{frames_in}
use Rattle.handlebars_layers.specs.LayerView.{after_names, descent_names}
use Rattle.handlebars_layers.specs.Under.{Hit, beyond}
use Rattle.handlebars_layers.proofs.Under.{beyond-moved}
use Rattle.handlebars_layers.proofs.prefixes.in_descent.Goals as goal

pub returns-in-Some-clause-found : goal.returns-in-Some-clause-found
returns-in-Some-clause-found c =
    let d = view c.args.base.now in
    let base = names_at (frames_in c.args.start) in
    let name = string_bytes c.args.name.now in
    c.placed_at.ensures.found
    ∙ ap (option_map {U = Hit} (λ (h : Hit). (base ++ h.0, h.1))) (c.along_descent-walk.ensures d (c.walk_from.ensures name)).0
    ∙ beyond-moved d base (descent_names c.in-Some.descent.now) name
    ∙ ap (λ o. beyond d base (after_names o) name) (sym c.in-Some.is)
