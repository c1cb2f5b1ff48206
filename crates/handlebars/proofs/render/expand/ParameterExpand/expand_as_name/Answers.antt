use Rattle.std.proofs.Common.{sym, subst}
use Rattle.std.specs.Cow.{cow_str_bytes}
use Rattle.handlebars_template.specs.TreeView.{param_view}
use Rattle.handlebars_semantics.specs.Values.{HasName}
use Rattle.handlebars_expand.specs.Boxed.{error_of}
use Rattle.handlebars_context.specs.View.{state_of}
use Rattle.handlebars_expand.specs.View.{Yields}
use Rattle.handlebars.specs.View.{setting_of}
use Rattle.handlebars_expand.proofs.Propagated.{yields-propagated}
use Rattle.handlebars.proofs.render.expand.ParameterExpand.expand_as_name.Goals as goal

pub returns-in-Ok-clause-expands : goal.returns-in-Ok-clause-expands
returns-in-Ok-clause-expands g c = λ ready. subst
    (Yields (HasName (setting_of g.E.UserParts.registered g.E.UserParts.user c.args.registry.now c.args.data.now)
    (state_of c.args.rc.now) (param_view c.args.self.now)) cow_str_bytes)
    (sym c.fail_after.ensures.answer) c.in-Ok.ensures.value

pub returns-in-Err-clause-expands : goal.returns-in-Err-clause-expands
returns-in-Err-clause-expands g c = λ ready.
    let has = HasName (setting_of g.E.UserParts.registered g.E.UserParts.user c.args.registry.now c.args.data.now)
    (state_of c.args.rc.now) (param_view c.args.self.now) in
    subst (Yields has cow_str_bytes) (sym c.fail_after-in-Err.ensures.answer)
    (yields-propagated has (error_of c.in-Err.e) c.into_error.result c.into_error.ensures
    c.in-Err.ensures.value)
