use Rattle.std.proofs.Common.{◌≡◌, ◌||◌, ℕ, List, drop, is_some, map}
use Rattle.std.specs.BTreeMap.{get_by}
use Rattle.std.specs.Cmp.Lexicographic.{slice_cmp}
use Rattle.std.specs.Ordering.{nat_cmp}
use Rattle.handlebars_html.specs.Ascii.{is_one_of}
use Rattle.handlebars_names.specs.NamesView.{name_of_template}
use Rattle.handlebars_names.proofs.templates.places_of.Given as goal

-- A name is one of those that are left, or it is placed.
abbrev pub invariant-templates : goal.invariant-templates
invariant-templates l = (n : List ℕ)
    → (is_one_of (map name_of_template (drop l.place l.list)) n || is_some (get_by (λ k. slice_cmp nat_cmp n k.now) l.places))
    ≡ is_one_of (map name_of_template l.list) n
