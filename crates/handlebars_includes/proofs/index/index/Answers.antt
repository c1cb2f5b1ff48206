use Rattle.std.proofs.Common.{ℕ, ◌+◌, List, drop, map, Option, Some, ap, sym, ◌∙◌}
use Rattle.std.specs.BTreeMap.{get_by}
use Rattle.std.specs.Cmp.Lexicographic.{slice_cmp}
use Rattle.std.specs.Ordering.{nat_cmp}
use Rattle.std.proofs.lemmas.Map.Text.{btree_map_updates_str}
use Rattle.handlebars_includes.specs.Graph.{index_among}
use Rattle.handlebars_includes.specs.View.{name_of}
use Rattle.handlebars_includes.specs.declared.template.NamedTemplate.{NamedTemplate}
use Rattle.handlebars_includes.proofs.Elements.{read}
use Rattle.handlebars_includes.proofs.index.index.Goals as goal

pub templates-preserved : goal.templates-preserved
templates-preserved c = λ n.
    let ts = c.args.templates.now in
    let at = c.templates.i in
    let item = c.index-templates-i.result in
    ap (λ (o : Option ℕ). index_among (at + 1) (map name_of (drop (at + 1) ts)) n o)
    (btree_map_updates_str item.name.now c.templates.index c.insert.new.self (Some at) c.in_ok-insert.ensures.updates n)
    ∙ sym (ap (λ (zs : List NamedTemplate). index_among at (map name_of zs) n (get_by (λ k. slice_cmp nat_cmp n k.now) c.templates.index))
    (read ts at item c.templates-test.true c.index-templates-i.is))
    ∙ c.templates.invariant n
