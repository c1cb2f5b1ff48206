use Rattle.std.proofs.Common.{◌∙◌, [], ap, option_map, string_bytes, sym}
use Rattle.serde_json.specs.View.{view}
use Rattle.handlebars_scope.specs.Resolve.{or_else}
use Rattle.handlebars_scope.specs.ResolutionView.{names_in}
use Rattle.handlebars_layers.specs.Hits.{Walked, below}
use Rattle.handlebars_layers.specs.Under.{Hit, hit_at}
use Rattle.handlebars_layers.proofs.Under.{hit-value, under-beyond}
use Rattle.handlebars_layers.proofs.elsewhere.longest.Goals as goal

pub returns-in-Some : goal.returns-in-Some
returns-in-Some c =
    let d = view c.args.changed.now in
    let base = names_in c.args.base.now in
    let name = string_bytes c.args.name.now in
    let walked : Walked d name base c.along_names.result = c.along_names.ensures d (c.walk_from.ensures name) in
    ap (λ o. option_map (λ (hit : Hit). hit.1) (or_else o (hit_at d [] name))) (sym (ap (option_map below) c.in-Some.is) ∙ walked.0)
    ∙ ap (option_map (λ (hit : Hit). hit.1)) (sym (under-beyond d [] base name))

pub returns-in-None : goal.returns-in-None
returns-in-None c =
    let d = view c.args.changed.now in
    let base = names_in c.args.base.now in
    let name = string_bytes c.args.name.now in
    let walked : Walked d name base c.along_names.result = c.along_names.ensures d (c.walk_from.ensures name) in
    c.value_by_name.ensures
    ∙ sym (hit-value d [] name)
    ∙ ap (λ o. option_map (λ (hit : Hit). hit.1) (or_else o (hit_at d [] name))) (sym (ap (option_map below) c.in-None.is) ∙ walked.0)
    ∙ ap (option_map (λ (hit : Hit). hit.1)) (sym (under-beyond d [] base name))
