use Rattle.std.proofs.Common.{◌≡◌, ◌∙◌, ap, refl, rules}
use Rattle.serde_json.specs.Data.{null}
use Rattle.handlebars_template.specs.Tree.{literal}
use Rattle.std.proofs.lemmas.Result.{on_ok_weaker}
use Rattle.serde_json.specs.View as json
use Rattle.serde_json.specs.declared.value.Value.{Null, the_lemmas}
use Rattle.handlebars_expressions.specs.ExpressionView.{key_of}
use Rattle.handlebars_template.specs.ExpressionBuildingView.{calls_view}
use Rattle.handlebars_template.proofs.Levels.{param_view-Literal}
use Rattle.handlebars_template.proofs.ExpressionsBuilt.{unwrap_or-now}
use Rattle.handlebars_template.proofs.OpenExpressions.{calls-literal, calls-worthless}
use Rattle.handlebars_template.proofs.template.build.OpenCalls.add_literal.Goals as goal

pub returns-in-Some : goal.returns-in-Some
returns-in-Some c = on_ok_weaker c.add.result
    (λ added expressions are. calls-literal expressions (calls_view c.args.self.now) _ (key_of c.args.key) c.args.raw.now (json.view c.in-Some.value) are
    (λ expression t is same. rw c.in_ok-key.ensures at (added expression t is (param_view-Literal c.in-Some.value ∙ same))) refl refl (rw c.in-Some.is at c.in_ok-value.ensures))
    c.add.ensures

pub returns-in-None : goal.returns-in-None
returns-in-None c =
    let empty : json.view Null ≡ null = search (rules, the_lemmas) in
    on_ok_weaker c.add-in-None.result
    (λ added expressions are. calls-worthless expressions (calls_view c.args.self.now) _ (key_of c.args.key) c.args.raw.now are
    (λ expression t is same. rw c.in_ok-key.ensures at (added expression t is (param_view-Literal Null ∙ ap literal empty ∙ same))) refl (rw c.unwrap_or.ensures (unwrap_or-now c.args.self.now.rejected c.args.raw)) (rw c.in-None.is at c.in_ok-value.ensures))
    c.add-in-None.ensures
