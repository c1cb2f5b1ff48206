use Rattle.std.proofs.Common.{ap, ◌∙◌}
use Rattle.handlebars_base.specs.Scoped.{data_in}
use Rattle.handlebars_scope.specs.Merged.{merge}
use Rattle.handlebars_semantics.specs.Inclusion.{hash_data}
use Rattle.handlebars_expand.proofs.Bases.{base-param}
use Rattle.handlebars_values.specs.ParamView.{argument_view}
use Rattle.handlebars_values.specs.View.{called_view, setting_in, state_with}
use Rattle.handlebars_values.proofs.PartialBases.{first-seen, none-seen}
use Rattle.handlebars_values.proofs.inclusion.base.Goals as goal

pub returns-in_ok-merged-in-Some : goal.returns-in_ok-merged-in-Some
returns-in_ok-merged-in-Some g c = λ captured.
    let p = setting_in g.P.Registered.parts c.args.environment.now in
    let s = state_with captured c.args.run.now in
    let v = called_view c.args.tag.now in
    let q = argument_view c.in-Some.param.now in (
      data_in q.found,
      base-param p s v.params q (first-seen argument_view c.args.tag.now.params.items c.deref.result.now c.in-Some.param.now
          c.deref.ensures.value c.in-Some.ensures.lookup.3.0 c.in-Some.ensures.lookup.1),
      c.in_ok-merged-in-Some.ensures ∙ ap (λ d. merge d (hash_data v.hash)) c.json.ensures,
    )

pub returns-in-None : goal.returns-in-None
returns-in-None g c = λ captured.
    c.current.ensures captured (none-seen argument_view c.args.tag.now.params.items c.deref.result.now
    c.deref.ensures.value c.in-None.ensures.lookup.3)
