-- What the checks say of a list of templates they say of what is registered.
use Rattle.std.proofs.Common.{◌≡◌, List, [], ◌∷◌, true, map, ap, refl, subst}
use Rattle.handlebars_base.specs.Bytes.{Text}
use Rattle.handlebars_helpers.specs.UserAnswers.{Registrations}
use Rattle.handlebars_html.specs.SearchView.{template_of}
use Rattle.handlebars_html.specs.declared.search.NamedTemplate.{NamedTemplate}
use Rattle.handlebars_names.specs.NamesView.{names_in, name_of_template}
use Rattle.handlebars_names.specs.Search as names
use Rattle.handlebars_template.specs.Tree.{Tree}
use Rattle.hb_check.specs.Says.{SaysNames, names_among, names_over}
use Rattle.hb_check.specs.Sources.{templates_in}
use Rattle.hb_check.specs.declared.sources.Sources.{Sources}

names-among : (ts : List NamedTemplate) → map name_of_template ts ≡ names_among (map template_of ts)
names-among [] = refl
names-among (t ∷ ts) = ap (λ (ns : List Text). t.name.now ∷ ns) (names-among ts)

pub says-names : (ss : Sources) (r : Registrations) (ts : List NamedTemplate) (page : names.Page) (v : names.Verdict)
    → map template_of ts ≡ templates_in ss → names.IsVerdict (names_in r true ts) (map template_of ts) page v
    → SaysNames r ss page v
says-names ss r ts page v are says =
    subst (λ (xs : List (Text × Tree)). names.IsVerdict (names_over r (names_among xs)) xs page v) are
    (subst (λ (ns : List Text). names.IsVerdict (names_over r ns) (map template_of ts) page v) (names-among ts) says)
