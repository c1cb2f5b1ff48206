use Rattle.std.proofs.Common.{◌∙◌, map, Option, option_map, ap, sym, string_bytes, List}
use Rattle.std.specs.Prelude.{slice_get}
use Rattle.handlebars_base.specs.RenderRefusals.{location_of}
use Rattle.handlebars_template.specs.Position.{Position}
use Rattle.handlebars_template.specs.TreeView.{position_of}
use Rattle.handlebars_template.specs.declared.template.tree.TemplateMapping.{TemplateMapping}
use Rattle.handlebars_template.proofs.Trees.{tree_view-out}
use Rattle.handlebars_semantics.specs.Runs.{positioned_at}
use Rattle.handlebars_semantics.specs.Occurrences.{first_tree, element_in}
use Rattle.handlebars_expand.specs.Boxed.{error_of}
use Rattle.handlebars_values.specs.View.{state_with}
use Rattle.handlebars_elements.proofs.Evaluated.{alone-elements, alone_view, silent-ends, silent-goes, silent-failed}
use Rattle.handlebars_elements.proofs.RunChanges.{unchanged-trans}
use Rattle.handlebars_elements.proofs.Lists.{below-seen, get_or-seen, list_lookup, over-seen, position_there, positioned_marks}
use Rattle.handlebars_elements.proofs.evaluate.eval_tree.Goals as goal

pub elements-preserved : goal.elements-preserved
elements-preserved g c = (
  λ captured. silent-goes _ (map alone_view c.deref-element-items.result.now) (map position_of c.args.template.now.mapping.items)
      c.elements.index (alone_view c.element-item.result) (alone_view c.element-item.result) _ _ _
      (below-seen alone_view c.deref-element-items.result.now c.elements.index c.elements-test.true)
      (get_or-seen alone_view c.deref-element-items.result.now c.elements.index c.element-item.result c.element-item.is)
      (c.elements.invariant.0 captured) (c.in_default.ensures.does (element_in first_tree c.elements.index (slice_get (map position_of c.args.template.now.mapping.items) c.elements.index)) captured),
  unchanged-trans c.elements.invariant.1 c.in_default.ensures.unchanged,
)

pub returns-in-Err-clause-evals : goal.returns-in-Err-clause-evals
returns-in-Err-clause-evals g c = λ captured.
    let found = list_lookup (λ m. m.now) c.deref.result.now c.elements.index _ c.get.result c.get.ensures.lookup.1 c.get.ensures.lookup.3
    ∙ ap (λ (z : List TemplateMapping). slice_get z c.elements.index) c.deref.ensures.value in
    let position = position_there c.args.template.now.mapping.items c.elements.index c.get.result found in
    rw (tree_view-out c.args.template.now) (rw (alone-elements c.args.template.now.elements.items)
    (rw (sym c.deref-element-items.ensures.value)
    (silent-failed _ (option_map string_bytes c.args.template.now.name) (map alone_view c.deref-element-items.result.now)
    (map position_of c.args.template.now.mapping.items) c.elements.index (alone_view c.element-item.result)
    (alone_view c.element-item.result) _ _ (state_with captured c.eval_element.new.run) (state_with captured c.eval_element.new.run)
    (error_of c.in-Err.e) (error_of c.positioned.result) (error_of c.renamed.result)
    (below-seen alone_view c.deref-element-items.result.now c.elements.index c.elements-test.true)
    (get_or-seen alone_view c.deref-element-items.result.now c.elements.index c.element-item.result c.element-item.is)
    (c.elements.invariant.0 captured)
    (positioned_marks _ _ _ _ (λ other. c.positioned.ensures.location other ∙ ap (λ (z : Option Position). positioned_at z (location_of (error_of c.in-Err.e))) position)
    c.positioned.ensures.cause)
    c.renamed.ensures.location c.renamed.ensures.cause c.renamed.ensures.memory
    (c.in-Err.ensures.does (element_in first_tree c.elements.index (slice_get (map position_of c.args.template.now.mapping.items) c.elements.index)) captured))))

pub returns-clause-evals : goal.returns-clause-evals
returns-clause-evals g c = λ captured.
    rw (tree_view-out c.args.template.now) (rw (alone-elements c.args.template.now.elements.items)
    (rw (sym c.deref-element-items.ensures.value)
    (silent-ends _ (map alone_view c.deref-element-items.result.now) (map position_of c.args.template.now.mapping.items)
    c.elements.index _ _ (over-seen alone_view c.deref-element-items.result.now c.elements.index c.elements-test.false)
    (c.elements.invariant.0 captured))))
