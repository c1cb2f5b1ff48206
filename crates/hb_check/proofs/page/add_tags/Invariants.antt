use Rattle.std.proofs.Common.{◌≡◌, ◌++◌, map, take}
use Rattle.handlebars_template.specs.TreeView.{element_view}
use Rattle.hb_check.specs.Page.{tag_of}
use Rattle.hb_check.proofs.page.add_tags.Given as goal

abbrev pub invariant-names : goal.invariant-names
invariant-names l = map element_view l.elements.items
    ≡ map element_view l.fn.elements.items ++ map tag_of (map (λ n. n.now) (take l.name-index l.names))
