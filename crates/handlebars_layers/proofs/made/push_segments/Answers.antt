use Rattle.std.proofs.Common.{◌++◌, ◌∷◌, [], ◌∙◌, ap}
use Rattle.handlebars_base.specs.declared.json.path.PathSeg.{PathSeg}
use Rattle.handlebars_scope.specs.ResolutionView.{names_in}
use Rattle.handlebars_layers.proofs.Names.{after-named, after-ruled}
use Rattle.handlebars_layers.proofs.made.push_segments.Goals as goal

pub segments-preserved-in_ok-push_text-in-Named : goal.segments-preserved-in_ok-push_text-in-Named
segments-preserved-in_ok-push_text-in-Named c =
    after-named (names_in c.segments.path.items) _ c.segments.left.now c.in-Some.rest.now c.in-Named.name
    (c.in_ok-push_text-in-Named.ensures ∙ ap (λ name. names_in c.segments.path.items ++ name ∷ []) c.as_str.ensures.value)
    (c.in-Some.ensures.cases.0 ∙ ap (λ (last : PathSeg). c.in-Some.rest.now ++ last ∷ []) c.in-Named.is)
    ∙ c.segments.invariant

pub segments-preserved : goal.segments-preserved
segments-preserved c =
    after-ruled (names_in c.segments.path.items) c.segments.left.now c.in-Some.rest.now c.in-Ruled.field-0
    (c.in-Some.ensures.cases.0 ∙ ap (λ (last : PathSeg). c.in-Some.rest.now ++ last ∷ []) c.in-Ruled.is)
    ∙ c.segments.invariant
