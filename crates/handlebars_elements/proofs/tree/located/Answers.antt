use Rattle.std.proofs.Common.{◌∙◌, ap, List, Option}
use Rattle.std.specs.Prelude.{slice_get}
use Rattle.handlebars_base.specs.RenderRefusals.{location_of}
use Rattle.handlebars_template.specs.Position.{Position}
use Rattle.handlebars_template.specs.declared.template.tree.TemplateMapping.{TemplateMapping}
use Rattle.handlebars_semantics.specs.Runs.{positioned_at}
use Rattle.handlebars_expand.specs.Boxed.{error_of}
use Rattle.handlebars_elements.proofs.Lists.{list_lookup, position_there}
use Rattle.handlebars_elements.proofs.tree.located.Goals as goal

pub returns : goal.returns
returns c =
    let found = list_lookup (λ m. m.now) c.deref.result.now c.args.index _ c.get.result c.get.ensures.lookup.1 c.get.ensures.lookup.3
    ∙ ap (λ (z : List TemplateMapping). slice_get z c.args.index) c.deref.ensures.value in
    record {
      of_element = error_of c.positioned-error.result;
      of_tree = error_of c.named.result;
      answer = c.from.ensures;
      positioned = λ other. c.positioned-error.ensures.location other
          ∙ ap (λ (z : Option Position). positioned_at z (location_of (error_of c.args.error))) (position_there c.args.template.now.mapping.items c.args.index c.get.result found);
      cause = c.positioned-error.ensures.cause;
      named = c.named.ensures.location;
      same_cause = c.named.ensures.cause;
      memory = c.named.ensures.memory;
    }
