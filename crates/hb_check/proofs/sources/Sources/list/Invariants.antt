use Rattle.std.proofs.Common.{◌≡◌, ◌++◌, map, string_bytes}
use Rattle.handlebars_html.specs.SearchView.{template_of}
use Rattle.handlebars_template.specs.TreeView.{tree_view}
use Rattle.hb_check.specs.Sources.{templates_in}
use Rattle.hb_check.proofs.sources.Sources.list.Given as goal

-- Those that were listed, with those that are left, are all.
abbrev pub invariant-sources : goal.invariant-sources
invariant-sources l =
    map template_of l.templates.items ++ map (λ p. (string_bytes p.0, tree_view p.1.template)) l.name-iterator
    ≡ map template_of l.fn.templates.items ++ templates_in l.self
