use Rattle.std.proofs.Common.{◌≡◌, ◌++◌, ◌∷◌, ◌∙◌, [], List, ap, refl, string_bytes, subst, sym}
use Rattle.std.proofs.lemmas.List.{append-nil}
use Rattle.handlebars_base.specs.Bytes.{Text}
use Rattle.handlebars_layers.specs.Hits.{Walked}
use Rattle.handlebars_layers.specs.LayerView.{descent_names, last_names}
use Rattle.handlebars_layers.proofs.DescentNames.{names-to-last}
use Rattle.handlebars_layers.proofs.descents.along_last.Goals as goal

pub returns-in-Some : goal.returns-in-Some
returns-in-Some c = λ d before names walked.
    let name = string_bytes c.args.name.now in
    let all : before ++ string_bytes c.in-Some.link.now ∷ [] ≡ descent_names c.args.descent.now =
    sym (names ∙ ap (λ o. before ++ last_names o) c.in-Some.is) in
    subst (λ (xs : List Text). Walked d name xs c.step.result) all
    (c.step.ensures d before (names-to-last c.args.descent _ _ c.args.name refl refl ∙ ap (λ xs. xs ++ name ∷ []) (sym all)) walked)

pub returns-in-None : goal.returns-in-None
returns-in-None c = λ d before names walked.
    subst (λ (xs : List Text). Walked d (string_bytes c.args.name.now) xs c.args.walk)
    (sym (names ∙ ap (λ o. before ++ last_names o) c.in-None.is ∙ append-nil before)) walked
