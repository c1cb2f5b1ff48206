use Rattle.std.proofs.Common.{◌≡◌, ◌++◌, ◌∙◌, ap, sym}
use Rattle.serde_json.specs.View.{view}
use Rattle.handlebars_base.specs.Answers.{fails_for}
use Rattle.handlebars_base.specs.PathView.{segments_of}
use Rattle.handlebars_base.specs.Reasons.{invalid_json_index}
use Rattle.handlebars_scope.proofs.Resolutions.{value_at-on}
use Rattle.handlebars_scope.specs.Resolve.{names_of, value_at}
use Rattle.handlebars_scope.specs.ResolutionView.{names_in, reached_of}
use Rattle.handlebars_layers.specs.Chain.{names_at}
use Rattle.handlebars_layers.specs.Destination.{frames_in}
use Rattle.handlebars_layers.proofs.InData.{data-fails, data-nothing, ok-data}
use Rattle.handlebars_layers.proofs.elsewhere.enter_from.Goals as goal

pub returns-in-Value : goal.returns-in-Value
returns-in-Value c =
    let d = view c.args.changed.now in
    let base = names_at (frames_in c.args.start) in
    let further = names_in c.args.bound.now ++ names_of (segments_of c.args.rest.now) in
    let at : reached_of c.along_names-members.result.0 ≡ value_at d base =
    c.along_names-members.ensures.reached ∙ ap (λ b. value_at d (names_in b)) c.deref.ensures.value ∙ ap (value_at d) c.in_ok-base.ensures in
    ok-data c.found.result _ _ c.found.ensures
    (c.enter-members.ensures.reached
    ∙ sym (value_at-on d (view c.in-Value.node.now) base further (sym at ∙ ap reached_of c.in-Value.is)))

pub returns-in-Nothing : goal.returns-in-Nothing
returns-in-Nothing c =
    let d = view c.args.changed.now in
    let base = names_at (frames_in c.args.start) in
    let further = names_in c.args.bound.now ++ names_of (segments_of c.args.rest.now) in
    let at : reached_of c.along_names-members.result.0 ≡ value_at d base =
    c.along_names-members.ensures.reached ∙ ap (λ b. value_at d (names_in b)) c.deref.ensures.value ∙ ap (value_at d) c.in_ok-base.ensures in
    data-nothing d base further (sym (ap reached_of c.in-Nothing.is) ∙ at)

pub returns : goal.returns
returns c =
    let d = view c.args.changed.now in
    let base = names_at (frames_in c.args.start) in
    let further = names_in c.args.bound.now ++ names_of (segments_of c.args.rest.now) in
    let at : reached_of c.along_names-members.result.0 ≡ value_at d base =
    c.along_names-members.ensures.reached ∙ ap (λ b. value_at d (names_in b)) c.deref.ensures.value ∙ ap (value_at d) c.in_ok-base.ensures in
    ap (λ name. fails_for (invalid_json_index name)) c.in_ok-from_str-in-NoIndex.ensures.ok
    ∙ data-fails d base further _ (sym (ap reached_of c.in-NoIndex.is) ∙ at)
