use Rattle.std.proofs.Common.{◌<◌, ◌∙◌, ap, arith, suc, sym, zero}
use Rattle.std.proofs.lemmas.Result.{on_err_weaker, on_ok_weaker}
use Rattle.handlebars_template.specs.TreeView.{tree_view}
use Rattle.handlebars_scope.specs.Scopes.{put_at}
use Rattle.handlebars_scope.specs.ScopeView.{partials_named}
use Rattle.handlebars_layers.specs.PartialsByDepth.{partials_at}
use Rattle.handlebars_layers.proofs.Settings.{deepest-kept, deeper-dropped, layer-of, on-err, outer-kept}
use Rattle.handlebars_layers.proofs.partials.Partials.set.Goals as goal

pub set_in_layer-requires-clause-deepest : goal.set_in_layer-requires-clause-deepest
set_in_layer-requires-clause-deepest c =
    deepest-kept c.drop_deeper.new.self c.args.self.now c.args.depth c.drop_deeper.ensures.ground c.drop_deeper.ensures.all

-- ---- in the ground

pub returns-then-depth-eq0-clause-deeper : goal.returns-then-depth-eq0-clause-deeper
returns-then-depth-eq0-clause-deeper c = elim [
  | zero ↦ λ deep. absurd (omega arith)
  | suc d ↦ λ deep.
      deeper-dropped c.drop_deeper.new.self c.args.self.now c.args.depth c.drop_deeper.ensures.ground c.drop_deeper.ensures.all
      (suc d) deep
]

-- ---- in a layer

pub returns-else-depth-eq0-clause-outer : goal.returns-else-depth-eq0-clause-outer
returns-else-depth-eq0-clause-outer c = elim [
  | zero ↦ λ outer. ap partials_named (c.set_in_layer.ensures.ground ∙ c.drop_deeper.ensures.ground)
  | suc d ↦ λ outer.
      c.set_in_layer.ensures.outer (suc d) outer
      ∙ outer-kept c.drop_deeper.new.self c.args.self.now c.args.depth c.drop_deeper.ensures.ground c.drop_deeper.ensures.all
      (suc d) (omega arith)
]

pub returns-else-depth-eq0-clause-own : goal.returns-else-depth-eq0-clause-own
returns-else-depth-eq0-clause-own c =
    let layer : 0 < c.args.depth = omega arith in
    let tree = tree_view c.args.template.value in
    let kept = c.drop_deeper.new.self in
    on_ok_weaker c.set_in_layer.result (λ put.
    layer-of c.set_in_layer.new.self c.args.depth layer
    ∙ put
    ∙ ap (λ name. put_at name tree (partials_at kept.all.items c.args.depth)) c.in_ok-name.ensures.ok
    ∙ ap (put_at c.args.name.now tree) (sym (layer-of kept c.args.depth layer)
    ∙ outer-kept c.drop_deeper.new.self c.args.self.now c.args.depth c.drop_deeper.ensures.ground c.drop_deeper.ensures.all
    c.args.depth (omega arith))) c.set_in_layer.ensures.own

pub returns-else-depth-eq0-clause-err : goal.returns-else-depth-eq0-clause-err
returns-else-depth-eq0-clause-err c =
    let layer : 0 < c.args.depth = omega arith in
    let kept = c.drop_deeper.new.self in
    on_err_weaker c.set_in_layer.result (λ unchanged.
    layer-of c.set_in_layer.new.self c.args.depth layer
    ∙ unchanged
    ∙ sym (layer-of kept c.args.depth layer)
    ∙ outer-kept c.drop_deeper.new.self c.args.self.now c.args.depth c.drop_deeper.ensures.ground c.drop_deeper.ensures.all
    c.args.depth (omega arith)) c.set_in_layer.ensures.err

-- ---- memory runs out

pub returns-in_err-name-clause-outer : goal.returns-in_err-name-clause-outer
returns-in_err-name-clause-outer c = λ d outer.
    outer-kept c.drop_deeper.new.self c.args.self.now c.args.depth c.drop_deeper.ensures.ground c.drop_deeper.ensures.all
    d (omega arith)

pub returns-in_err-name-clause-err : goal.returns-in_err-name-clause-err
returns-in_err-name-clause-err c =
    on-err c.from_residual.result
    (outer-kept c.drop_deeper.new.self c.args.self.now c.args.depth c.drop_deeper.ensures.ground c.drop_deeper.ensures.all
    c.args.depth (omega arith))

pub returns-in_err-name-clause-deeper : goal.returns-in_err-name-clause-deeper
returns-in_err-name-clause-deeper c =
    deeper-dropped c.drop_deeper.new.self c.args.self.now c.args.depth c.drop_deeper.ensures.ground c.drop_deeper.ensures.all
