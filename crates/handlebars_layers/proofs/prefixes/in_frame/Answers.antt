use Rattle.std.proofs.Common.{◌∙◌, [], ap, string_bytes, sym}
use Rattle.handlebars_scope.specs.Resolve.{if_any, or_else, value_at}
use Rattle.handlebars_scope.specs.ResolutionView.{names_in}
use Rattle.handlebars_layers.specs.Chain.{names_at}
use Rattle.handlebars_layers.specs.Destination.{frames_in, given_in}
use Rattle.handlebars_layers.specs.Hits.{Walked}
use Rattle.handlebars_layers.specs.LayerView.{after_names}
use Rattle.handlebars_layers.specs.Under.{beyond, hit_at, under}
use Rattle.handlebars_layers.proofs.Under.{frame-found, under-beyond}
use Rattle.handlebars_layers.proofs.prefixes.in_frame.Goals as goal

pub returns-in-Some-clause-found : goal.returns-in-Some-clause-found
returns-in-Some-clause-found c = λ same.
    let d = given_in c.args.start in
    let base = names_at (frames_in c.args.start) in
    let name = string_bytes c.args.name.now in
    let walked : Walked d name (names_in c.args.base.now) c.along_names-walk.result = c.along_names-walk.ensures d (c.walk_from.ensures name) in
    frame-found d base (after_names c.args.further) name _ _ (walked.1 ∙ ap (λ xs. if_any (value_at d xs)) same)
    (ap (λ o. or_else o (under d [] base name)) c.in-Some.ensures.found)

pub returns-in-None-clause-found : goal.returns-in-None-clause-found
returns-in-None-clause-found c = λ same.
    let d = given_in c.args.start in
    let base = names_at (frames_in c.args.start) in
    let name = string_bytes c.args.name.now in
    let walked : Walked d name (names_in c.args.base.now) c.along_names-walk.result = c.along_names-walk.ensures d (c.walk_from.ensures name) in
    frame-found d base (after_names c.args.further) name _ _ (walked.1 ∙ ap (λ xs. if_any (value_at d xs)) same)
    (c.in_names.ensures.found
    ∙ ap (λ o. or_else o (hit_at d [] name)) (walked.0 ∙ ap (λ xs. beyond d [] xs name) same)
    ∙ sym (under-beyond d [] base name)
    ∙ ap (λ o. or_else o (under d [] base name)) c.in-None.ensures.found)
