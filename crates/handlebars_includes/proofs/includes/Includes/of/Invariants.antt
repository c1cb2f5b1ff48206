use Rattle.std.proofs.Common.{◌≡◌, ◌++◌, ◌||◌, drop, map}
use Rattle.handlebars_includes.specs.Graph.{are_replaced, graph_of}
use Rattle.handlebars_includes.specs.View.{name_of, rows, tree_of}
use Rattle.handlebars_includes.proofs.includes.Includes.of.Given as goal

abbrev pub invariant-templates : goal.invariant-templates
invariant-templates l = record {
  graph : rows l.graph.items ++ graph_of (map name_of l.templates) (map tree_of (drop l.named-index l.templates))
      ≡ graph_of (map name_of l.templates) (map tree_of l.templates);
  replaced : (l.replaced || are_replaced (map name_of l.templates) (map tree_of (drop l.named-index l.templates)))
      ≡ are_replaced (map name_of l.templates) (map tree_of l.templates);
}
