use Rattle.std.proofs.Common.{◌≡◌, ◌∙◌, List, ◌∷◌, Option, option_map, refl, sym, ap, rules}
use Rattle.handlebars_base.specs.Bytes.{Text}
use Rattle.handlebars_expressions.specs.ExpressionReading.{add_term}
use Rattle.handlebars_template.specs.TreeView.{param_view}
use Rattle.handlebars_template.specs.ExpressionBuildingView.{OpenCall, open_view, around_view, calls_view, open_call_of}
use Rattle.handlebars_template.proofs.ExpressionsBuilt.{around_view_push}
use Rattle.handlebars_template.proofs.OpenExpressions.{as_term, closed-call}
use Rattle.handlebars_template.proofs.template.build.OpenCalls.close.Goals as goal

pub returns : goal.returns
returns c expressions are =
    let outer : OpenCall = open_view c.in-Some.outer in
    let outermost : List OpenCall = around_view c.pop.new.self.items in
    let head_is : around_view c.args.self.now.around.items ≡ outer ∷ outermost = search (rules, around_view_push) in
    let inner : open_view c.replace-inner.result ≡ open_view c.args.self.now.top = search rules in
    let left : open_view c.replace-inner.new.dest ≡ outer = search rules in
    closed-call expressions (calls_view c.args.self.now) _ outer outermost (param_view c.in-Some-2.call) are head_is
    (ap (option_map param_view) (sym c.in-Some-2.is) ∙ c.in_ok-call.ensures ∙ ap as_term inner)
    (λ expression t is same. c.in_ok-add.ensures expression t (left ∙ is) same ∙ ap (λ (k : Option Text). open_call_of (add_term k t expression)) (c.in_ok-key.ensures ∙ ap (λ (o : OpenCall). o.key) inner)) refl refl
