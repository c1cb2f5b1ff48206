-- What paths lead to from the innermost frame of a run.
use Rattle.std.specs.Prelude.{◌≡◌, Bool, Option, Some, None}
use mathlib.Core.HLevel.{⊥_prop}
use Rattle.serde_json.specs.Data.{Data}
use Rattle.handlebars_base.specs.Answers.{Answer, gives, fails}
use Rattle.handlebars_base.specs.PathView.{reference_of}
use Rattle.handlebars_base.specs.Scoped.{Found, walked, value, missing}
use Rattle.handlebars_base.specs.declared.json.path.Path.{Path}
use Rattle.handlebars_scope.specs.Contexts.{data_of}
use Rattle.handlebars_scope.specs.Resolve.{resolve}
use Rattle.handlebars_layers.specs.Chain.{frames}
use Rattle.handlebars_layers.specs.DataSet.{Data-set}
use Rattle.handlebars_layers.specs.LayerView.{chain_of}
use Rattle.handlebars_layers.specs.Destination.{route_names}
use Rattle.handlebars_layers.specs.declared.destination.Route.{Route}
use Rattle.handlebars_layers.specs.declared.innermost.Innermost.{Innermost}

-- what a path leads to from the innermost frame, with recursive lookup or without
abbrev pub sought : Bool → Innermost → Path → Answer Found
sought recursive i path = resolve recursive (frames (chain_of i.nearest.now)) (reference_of path) (data_of i.given.now)

-- what was found is this value of the data
abbrev pub IsWalked : Answer Found → Data → Type 0
IsWalked (gives (walked d names)) v = d ≡ v
IsWalked (gives (value d)) v = ⊥
IsWalked (gives missing) v = ⊥
IsWalked (fails r) v = ⊥

pub IsWalked-prop : (a : Answer Found) (v : Data) → IsProp (IsWalked a v)
IsWalked-prop (gives (walked d names)) v = Data-set d v
IsWalked-prop (gives (value d)) v = ⊥_prop
IsWalked-prop (gives missing) v = ⊥_prop
IsWalked-prop (fails r) v = ⊥_prop

-- If a value of the data was found, this is the route to it.
abbrev pub RoutesTo : Answer Found → Option Route → Type 0
RoutesTo (gives (walked d names)) (Some route) = route_names route ≡ names
RoutesTo (gives (walked d names)) None = ⊥
RoutesTo (gives (value d)) route = Unit {0}
RoutesTo (gives missing) route = Unit {0}
RoutesTo (fails r) route = Unit {0}
