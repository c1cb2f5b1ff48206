-- Partials by the depth of their frame.
use Rattle.std.specs.Prelude.{ℕ, Bool, false, List, [], ◌∷◌, Option, if◌then◌else◌, ◌==◌, nat_le}
use Rattle.handlebars_base.specs.Bytes.{Text}
use Rattle.handlebars_template.specs.Tree.{Tree}
use Rattle.handlebars_scope.specs.ScopeView.{partials_named}
use Rattle.handlebars_scope.specs.Scopes.{nothing_at}
use Rattle.handlebars_layers.specs.declared.partials.OfFrame.{OfFrame}

-- the partials of one layer by name
abbrev pub partials_in : OfFrame → Text → Option Tree
partials_in frame = partials_named frame.by_name

-- A frame has the partials of the entry of its depth. Without such an entry it has none.
abbrev pub partials_at : List OfFrame → ℕ → Text → Option Tree
partials_at [] depth = nothing_at
partials_at (f ∷ fs) depth = if depth == f.depth then partials_in f else partials_at fs depth

-- the first entries, as long as they are no deeper
abbrev pub kept_to : ℕ → List OfFrame → List OfFrame
kept_to depth [] = []
kept_to depth (f ∷ fs) = if nat_le f.depth depth then f ∷ kept_to depth fs else []

-- whether the last entry is of the layer at this depth
abbrev pub ends_at : ℕ → List OfFrame → Bool
ends_at depth [] = false
ends_at depth (f ∷ []) = f.depth == depth
ends_at depth (f ∷ (g ∷ fs)) = ends_at depth (g ∷ fs)
