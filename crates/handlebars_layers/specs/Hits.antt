-- What the code finds under prefixes.
use Rattle.std.specs.Prelude.{◌≡◌, List, [], option_map}
use denote.Ref.{Bor}
use Rattle.serde_json.specs.Data.{Data}
use Rattle.serde_json.specs.View.{view}
use Rattle.serde_json.specs.declared.value.Value.{Value}
use Rattle.handlebars_base.specs.Bytes.{Text}
use Rattle.handlebars_scope.specs.Resolve.{if_any, value_at}
use Rattle.handlebars_layers.specs.LayerView.{descent_names}
use Rattle.handlebars_layers.specs.Destination.{route_names}
use Rattle.handlebars_layers.specs.Under.{Hit, beyond}
use Rattle.handlebars_layers.specs.declared.layer.Descent.{Descent}
use Rattle.handlebars_layers.specs.declared.destination.Route.{Route}
use Rattle.handlebars_layers.specs.declared.descents.Walk.{Walk}

-- a value below another one
abbrev pub below : Descent × Bor Value → Hit
below hit = (descent_names hit.0, view hit.1.now)

-- How far a walk from a value has come: it went along these names, and found what the other name leads to under the longest
-- prefix of them that has one name or more.
abbrev pub Walked : Data → Text → List Text → Walk → Type 0
Walked d name names walk = (option_map below walk.best ≡ beyond d [] names name)
    × (option_map (λ v. view v.now) walk.node ≡ if_any (value_at d names))

-- a value of the data
abbrev pub placed : Bor Value × Route → Hit
placed hit = (route_names hit.1, view hit.0.now)
