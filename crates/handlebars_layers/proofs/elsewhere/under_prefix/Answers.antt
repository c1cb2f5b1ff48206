use Rattle.std.proofs.Common.{◌∙◌, [], ap, option_map, string_bytes}
use Rattle.serde_json.specs.View.{view}
use Rattle.handlebars_base.specs.Answers.{gives}
use Rattle.handlebars_scope.specs.ResolutionView.{names_in}
use Rattle.handlebars_layers.specs.Chain.{names_at}
use Rattle.handlebars_layers.specs.Destination.{frames_in}
use Rattle.handlebars_layers.specs.Under.{Hit, under}
use Rattle.handlebars_layers.proofs.Under.{under-value}
use Rattle.handlebars_layers.proofs.elsewhere.under_prefix.Goals as goal

pub returns-in-Some : goal.returns-in-Some
returns-in-Some c =
    let d = view c.args.changed.now in
    let name = string_bytes c.args.name.now in
    let base = ap names_in c.deref.ensures.value ∙ c.in_ok-base.ensures in
    ap gives (c.in-Some.ensures
    ∙ ap (λ xs. option_map (λ (hit : Hit). hit.1) (under d [] xs name)) base
    ∙ under-value d (names_at (frames_in c.args.start)) name)

pub returns : goal.returns
returns c =
    let d = view c.args.changed.now in
    let name = string_bytes c.args.name.now in
    let base = ap names_in c.deref.ensures.value ∙ c.in_ok-base.ensures in
    ap gives (c.in-None.ensures
    ∙ ap (λ xs. option_map (λ (hit : Hit). hit.1) (under d [] xs name)) base
    ∙ under-value d (names_at (frames_in c.args.start)) name)
