use Rattle.std.proofs.Common.{◌≡◌, ◌+◌, ◌++◌, ◌∷◌, ◌∙◌, [], List, String, Global, ap, append_assoc, arith, refl, string_bytes, subst, sym, take}
use Rattle.std.proofs.lemmas.List.{map-append, take_all, take_more}
use Rattle.handlebars_base.specs.Bytes.{Text}
use Rattle.handlebars_scope.specs.ResolutionView.{names_in}
use Rattle.handlebars_layers.specs.Hits.{Walked}
use Rattle.handlebars_layers.specs.LayerView.{after_names}
use Rattle.handlebars_layers.proofs.DescentNames.{names-to-name}
use Rattle.handlebars_layers.proofs.descents.along_names.Goals as goal

pub names-preserved : goal.names-preserved
names-preserved c = λ d walked.
    let bound = c.args.bound.now in
    let k = c.names.index in
    let link = c.index-bound-index.result in
    let before = after_names c.args.after in
    let cut : take (k + 1) bound ≡ take k bound ++ link ∷ [] =
    take_more bound k link c.names-test.true ∙ ap (λ (l : String Global). take k bound ++ l ∷ []) (sym c.index-bound-index.is) in
    subst (λ (xs : List Text). Walked d (string_bytes c.args.name.now) xs c.step-here.result)
    (append_assoc before (names_in (take k bound)) (string_bytes link ∷ [])
    ∙ ap (λ ys. before ++ ys) (sym (ap names_in cut ∙ map-append string_bytes (take k bound) (link ∷ []))))
    (c.step-here.ensures d (before ++ names_in (take k bound)) (names-to-name c.args.after bound _ _ k link c.args.name refl cut)
    (c.names.invariant d walked))

pub returns : goal.returns
returns c = λ d walked.
    subst (λ (xs : List (String Global)). Walked d (string_bytes c.args.name.now) (after_names c.args.after ++ names_in xs) c.names.here)
    (take_all c.names.index c.args.bound.now (omega arith)) (c.names.invariant d walked)
