-- The partial that a name means in layers.
use Rattle.std.specs.Prelude.{ℕ, zero, suc, Option, None}
use Rattle.handlebars_base.specs.Bytes.{Text}
use Rattle.handlebars_template.specs.Tree.{Tree}
use Rattle.handlebars_scope.specs.Resolve.{or_else}

-- The layer at this depth decides if it has a partial of the name. Otherwise the layers around it do, the nearest one first.
-- Depths of layers begin at 1.
abbrev pub nearest_partial : (ℕ → Text → Option Tree) → ℕ → Text → Option Tree
nearest_partial partials zero name = None
nearest_partial partials (suc depth) name = or_else (partials (suc depth) name) (nearest_partial partials depth name)
