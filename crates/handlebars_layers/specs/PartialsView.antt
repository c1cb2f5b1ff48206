-- The partials of the struct that holds them.
use Rattle.std.specs.Prelude.{ℕ, zero, suc, Option}
use Rattle.handlebars_base.specs.Bytes.{Text}
use Rattle.handlebars_template.specs.Tree.{Tree}
use Rattle.handlebars_scope.specs.ScopeView.{partials_named}
use Rattle.handlebars_layers.specs.PartialsByDepth.{partials_at}
use Rattle.handlebars_layers.specs.declared.partials.Partials.{Partials}

-- the partials of the frame at a depth, by name: of the nearest frame from outside, or of a layer
abbrev pub partials_of : Partials → ℕ → Text → Option Tree
partials_of partials zero = partials_named partials.ground
partials_of partials (suc depth) = partials_at partials.all.items (suc depth)
