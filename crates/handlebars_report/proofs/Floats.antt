-- The JSON of a problem has no float, so its text is the one that serde_json's definition gives.
use Rattle.std.proofs.Common.{◌≡◌, ◌||◌, ◌∙◌, false, List, [], ◌∷◌, None, Some, map, refl}
use Rattle.serde_json.specs.Data.{string}
use Rattle.serde_json.specs.View.{items_of}
use Rattle.serde_json.specs.Written.{has_float, items_have_float}
use Rattle.handlebars_report.specs.Json.{note_json, problem_json}
use Rattle.handlebars_report.specs.Position.{Text}
use Rattle.handlebars_report.specs.Problem.{Note, Problem}

items_have_float-texts : (texts : List Text) → items_have_float (items_of (map string texts)) ≡ false
items_have_float-texts [] = refl
items_have_float-texts (text ∷ texts) = items_have_float-texts texts

has_float-note_json : (n : Note) → has_float (note_json n) ≡ false
has_float-note_json n = elim n.place as (λ place. has_float (note_json (record { message = n.message; place = place })) ≡ false) [ None ↦ refl | Some place ↦ refl ]

items_have_float-notes : (notes : List Note) → items_have_float (items_of (map note_json notes)) ≡ false
items_have_float-notes [] = refl
items_have_float-notes (n ∷ notes) = (λ i. has_float-note_json n i || items_have_float (items_of (map note_json notes))) ∙ items_have_float-notes notes

pub has_float-problem_json : (p : Problem) → has_float (problem_json p) ≡ false
has_float-problem_json p = λ i. items_have_float-texts p.help i || (items_have_float-notes p.notes i || false)
