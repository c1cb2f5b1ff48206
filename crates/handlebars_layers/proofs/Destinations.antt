-- What the code found is what the definition finds, and its names lead to it.
use Rattle.std.proofs.Common.{◌≡◌, Bool, List, [], Option, Some, None, refl, sym, ap, subst, ◌∙◌}
use Rattle.serde_json.specs.Data.{Data}
use Rattle.handlebars_base.specs.Answers.{Answer, answer_map, gives, fails}
use Rattle.handlebars_base.specs.Bytes.{Text}
use Rattle.handlebars_base.specs.Path.{Reference, relative, variable}
use Rattle.handlebars_base.specs.Scoped.{Found, missing, value, walked}
use Rattle.handlebars_scope.specs.Resolve.{Resolution, along, found_along, found_by, found_within, in_block_value, resolution_of, resolve, under_prefix, value_at, variable_at}
use Rattle.handlebars_scope.specs.Scopes.{Frame}
use Rattle.handlebars_layers.specs.Chain.{IsValue}
use Rattle.handlebars_layers.specs.Destination.{IsDestination, destination_of, names_found, route_names}
use Rattle.handlebars_layers.specs.Sought.{IsWalked, RoutesTo}
use Rattle.handlebars_layers.specs.Under.{Hit, found_hit, under}
use Rattle.handlebars_layers.specs.declared.destination.Destination.{Destination}
use Rattle.handlebars_layers.specs.declared.destination.Destination.TheVariants.{Node, Value, Nothing, NoIndex}
use Rattle.handlebars_layers.specs.declared.destination.Route.{Route}
use Rattle.handlebars_layers.proofs.Nodes.{leads-of}
use Rattle.handlebars_layers.proofs.Under.{hit-there, under-found}

-- names that are those of what is sought
pub destination-by : (r : Destination) (names : List Text) (x : Answer Found) → destination_of names r ≡ x → IsDestination x r
destination-by (Node node) names x is = ap (λ ns. destination_of ns (Node node)) (ap names_found (sym is)) ∙ is
destination-by (Value v) names x is = is
destination-by Nothing names x is = is
destination-by (NoIndex name) names x is = is

pub destination-at : (x y : Answer Found) (r : Destination) → x ≡ y → IsDestination x r → IsDestination y r
destination-at x y r same is = subst (λ z. IsDestination z r) same is

-- ---- a walked value is what its names lead to

walked-along : (d v : Data) (names : List Text) (a : Answer (Option Data)) → value_at d names ≡ a
    → IsWalked (answer_map (found_along names) a) v → IsValue (value_at d (names_found (answer_map (found_along names) a))) v
walked-along d v names (gives None) is leads = absurd leads
walked-along d v names (gives (Some e)) is leads = leads-of (value_at d names) v (is ∙ ap (λ x. gives (Some x)) leads)
walked-along d v names (fails r) is leads = absurd leads

walked-within : (d v : Data) (a : Answer (Option Data)) → IsWalked (answer_map found_within a) v
    → IsValue (value_at d (names_found (answer_map found_within a))) v
walked-within d v (gives None) leads = absurd leads
walked-within d v (gives (Some e)) leads = absurd leads
walked-within d v (fails r) leads = absurd leads

walked-hit : (d v : Data) (base : List Text) (name : Text) (o : Option Hit) → o ≡ under d [] base name
    → IsWalked (gives (found_hit o)) v → IsValue (value_at d (names_found (gives (found_hit o)))) v
walked-hit d v base name None is leads = absurd leads
walked-hit d v base name (Some hit) is leads =
    leads-of (value_at d hit.0) v (hit-there base d d [] name hit refl is ∙ ap (λ x. gives (Some x)) leads)

pub walked-by : (x : Resolution) (d v : Data) → IsWalked (found_by x d) v → IsValue (value_at d (names_found (found_by x d))) v
walked-by (in_block_value held names) d v leads = walked-within d v (value_at held names) leads
walked-by (along names) d v leads = walked-along d v names (value_at d names) refl leads
walked-by (under_prefix base name) d v leads =
    subst (λ (found : Found). IsWalked (gives found) v → IsValue (value_at d (names_found (gives found))) v)
    (under-found d base name) (walked-hit d v base name (under d [] base name) refl) leads

pub walked-there : (recursive : Bool) (fs : List Frame) (r : Reference) (d v : Data) → IsWalked (resolve recursive fs r d) v
    → IsValue (value_at d (names_found (resolve recursive fs r d))) v
walked-there recursive fs (relative segments text) d v leads = walked-by (resolution_of recursive fs segments) d v leads
walked-there recursive fs (variable level name text) d v leads = walked-within d v (gives (variable_at fs level name)) leads

-- ---- routes

pub routes-at : (x y : Answer Found) (o : Option Route) → x ≡ y → RoutesTo x o → RoutesTo y o
routes-at x y o same is = subst (λ z. RoutesTo z o) same is

-- the names of the route to a walked value
pub routes-names : (x : Answer Found) (v : Data) (route : Route) → IsWalked x v → RoutesTo x (Some route)
    → route_names route ≡ names_found x
routes-names (gives (walked d names)) v route leads is = is
routes-names (gives (value d)) v route leads is = absurd leads
routes-names (gives missing) v route leads is = absurd leads
routes-names (fails r) v route leads is = absurd leads

pub routes-along : (names : List Text) (a : Answer (Option Data)) (route : Route) → route_names route ≡ names
    → RoutesTo (answer_map (found_along names) a) (Some route)
routes-along names (gives None) route is = tt
routes-along names (gives (Some e)) route is = is
routes-along names (fails r) route is = tt

-- a value of a frame has no route
pub routes-within : (a : Answer (Option Data)) (o : Option Route) → RoutesTo (answer_map found_within a) o
routes-within (gives None) o = tt
routes-within (gives (Some e)) o = tt
routes-within (fails r) o = tt

pub routes-hit : (d v : Data) (base : List Text) (name : Text) (route : Route) → Some (route_names route, v) ≡ under d [] base name
    → RoutesTo (found_by (under_prefix base name) d) (Some route)
routes-hit d v base name route is =
    subst (λ (found : Found). RoutesTo (gives found) (Some route)) (ap found_hit is ∙ under-found d base name) refl

pub routes-none : (d : Data) (base : List Text) (name : Text) → None ≡ under d [] base name
    → RoutesTo (found_by (under_prefix base name) d) None
routes-none d base name is =
    subst (λ (found : Found). RoutesTo (gives found) None) (ap found_hit is ∙ under-found d base name) tt
