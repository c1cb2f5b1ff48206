-- A name under the prefixes of other names, the longest prefix first. What is found has its names here, and not their number,
-- so that a prefix may begin anywhere on the way.
use Rattle.std.specs.Prelude.{◌++◌, List, [], ◌∷◌, Option, Some, None, option_map}
use Rattle.serde_json.specs.Data.{Data}
use Rattle.handlebars_base.specs.Bytes.{Text}
use Rattle.handlebars_base.specs.Optional.{◌>>=◌}
use Rattle.handlebars_base.specs.Scoped.{Found, walked, missing}
use Rattle.handlebars_scope.specs.Resolve.{if_any, member_at, or_else}
use Rattle.handlebars_layers.specs.Chain.{LayerKind, iteration_layer, partial_layer, with_layer}

-- a value, and the names that lead to it
abbrev pub Hit : Type 0
Hit = List Text × Data

-- what the name leads to right after the names before it
abbrev pub hit_at : Data → List Text → Text → Option Hit
hit_at d before name = option_map (λ v. (before ++ name ∷ [], v)) (if_any (member_at d name))

-- what the name leads to under the longest prefix of other names, from a value to which the names before them lead
abbrev pub under : Data → List Text → List Text → Text → Option Hit
under d before [] name = hit_at d before name
under d before (n ∷ ns) name =
    or_else (if_any (member_at d n) >>= λ e. under e (before ++ n ∷ []) ns name) (hit_at d before name)

-- the same under the prefixes of one name or more
abbrev pub beyond : Data → List Text → List Text → Text → Option Hit
beyond d before [] name = None
beyond d before (n ∷ ns) name = if_any (member_at d n) >>= λ e. under e (before ++ n ∷ []) ns name

-- the same from the value that was reached, if there is one
abbrev pub from_end : Option Data → List Text → List Text → Text → Option Hit
from_end o before names name = o >>= λ e. beyond e before names name

abbrev pub found_hit : Option Hit → Found
found_hit None = missing
found_hit (Some hit) = walked hit.1 hit.0

-- what the name leads to from the member of an iteration; any other layer has no member
abbrev pub member_value : LayerKind → Data → Text → Option Data
member_value (iteration_layer i key last names) d name = if_any (member_at d name)
member_value (with_layer names) d name = None
member_value (partial_layer hs) d name = None
