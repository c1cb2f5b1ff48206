use Rattle.std.proofs.Common.{List, ap, ap₂, ◌∙◌}
use Rattle.std.specs.Prelude.{slice_get}
use Rattle.handlebars_expand.specs.PiecesView.{template_seen}
use Rattle.handlebars_template.specs.declared.template.tree.TemplateMapping.{TemplateMapping}
use Rattle.handlebars_write.proofs.Locations.{list_lookup, position_there}
use Rattle.handlebars_write.proofs.each_piece.location.Goals as goal

pub returns : goal.returns
returns c = λ is.
    let x = c.args.at.surroundings.now in
    let found = list_lookup (λ m. m.now) c.deref.result.now c.args.at.index _ c.get.result c.get.ensures.lookup.1 c.get.ensures.lookup.3
    ∙ ap (λ (z : List TemplateMapping). slice_get z c.args.at.index) c.deref.ensures.value in
    ap₂ (λ is p. record { around = record { template = template_seen x.placement.now.template; iterations = is }; position = p })
    is (position_there x.mapping.now.items c.args.at.index c.get.result found)
