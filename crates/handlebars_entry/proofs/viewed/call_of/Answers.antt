use Rattle.std.proofs.Common.{◌≡◌, ◌∙◌, List, [], ◌∷◌, ap, map, refl, sym}
use Rattle.handlebars_base.specs.PathAndData.{PathAndData, path_and_data}
use Rattle.handlebars_base.specs.Scoped.{data_in}
use Rattle.handlebars_base.specs.declared.json.value.path_and_json.PathAndJson.{PathAndJson}
use Rattle.handlebars_semantics.specs.Inclusion.{hash_data}
use Rattle.handlebars_values.specs.ParamView.{argument_view}
use Rattle.handlebars_values.specs.declared.param_value.Argument.{Argument}
use Rattle.handlebars_entry.proofs.ArgumentsViewed.{data_of_argument, data_passed}
use Rattle.handlebars_entry.proofs.viewed.call_of.Goals as goal

map-twice : {A B C : Type 0} (f : B → C) (g : A → B) (xs : List A) → map f (map g xs) ≡ map (λ x. f (g x)) xs
map-twice f g [] = refl
map-twice f g (x ∷ xs) = ap (λ ys. f (g x) ∷ ys) (map-twice f g xs)

params-viewed : (qs : List Argument) (ps : List PathAndJson) (all : List PathAndData)
    → map data_of_argument qs ≡ map data_passed ps → map path_and_data ps ≡ all
    → map (λ p. data_in p.found) (map argument_view qs) ≡ map (λ p. data_in p.found) all
params-viewed qs ps all is same =
    map-twice (λ (p : PathAndData). data_in p.found) argument_view qs ∙ is
    ∙ sym (map-twice (λ (p : PathAndData). data_in p.found) path_and_data ps) ∙ ap (map (λ (p : PathAndData). data_in p.found)) same

pub returns : goal.returns
returns c = record {
  name = c.name.ensures;
  params = params-viewed c.in_ok-params_of.field-0.items c.params.result.now.items _ c.in_ok-params_of.ensures c.params.ensures;
  hash = c.in_ok-hash_of.ensures ∙ ap hash_data c.hash.ensures;
}
