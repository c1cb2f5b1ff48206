use Rattle.std.proofs.Common.{◌≡◌, ◌++◌, map, take}
use Rattle.handlebars_includes.specs.View.{name_of}
use Rattle.handlebars_template.specs.TreeView.{element_view}
use Rattle.hb_check.specs.Page.{block_tag_of, names_at}
use Rattle.hb_check.proofs.page.add_tags_at.Given as goal

abbrev pub invariant-indices : goal.invariant-indices
invariant-indices l = map element_view l.elements.items
    ≡ map element_view l.fn.elements.items ++ map block_tag_of (names_at (map name_of l.templates) (take l.index-index l.indices))
