use Rattle.std.proofs.Common.{ap, refl, subst, ◌∙◌}
use Rattle.std.specs.Prelude.{Bool, not}
use Rattle.handlebars_semantics.specs.State.{State}
use Rattle.handlebars_context.specs.View.{state_of}
use Rattle.handlebars_write.specs.View.{StringFails}
use Rattle.handlebars_base.specs.RenderRefusals.{refusal_of}
use Rattle.handlebars_scope.specs.Contexts.{data_of}
use Rattle.handlebars_semantics.specs.Means.{render_tree}
use Rattle.handlebars_template.specs.TreeView.{tree_view}
use Rattle.handlebars.specs.View.{setting_over}
use Rattle.hb.specs.Pages.{fails}
use Rattle.hb.proofs.text.text_of.Goals as goal

pub returns-in-Err-clause-err : goal.returns-in-Err-clause-err
returns-in-Err-clause-err g c = λ other.
    let ready = c.set_disable_escape.ensures.failed ∙ c.set_recursive_lookup.ensures.failed ∙ c.requires in
    let why = c.in-Err.ensures.err ready (λ memory. other (c.failed_in.ensures.memory memory)) in
    let begins = c.set_disable_escape.ensures.state
    ∙ ap (λ (s : State). record s { escapes = not c.args.raw }) c.set_recursive_lookup.ensures.state
    ∙ ap (λ (b : Bool). record (state_of c.args.rc.now) { recursive = b; escapes = not c.args.raw }) c.recursive_lookup.ensures in
    fails refl (subst (λ (s : State). StringFails (setting_over g.E.UserParts.registered g.E.UserParts.user c.args.registry.now (data_of c.args.«data».now))
    (render_tree (tree_view c.args.template.now)) s (refusal_of c.in-Err.cause)) begins why)
