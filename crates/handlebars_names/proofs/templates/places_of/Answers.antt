use Rattle.std.proofs.Common.{ℕ, ◌+◌, ◌||◌, List, drop, map, Option, Some, bytes_eq, is_some, ap, sym, ◌∙◌}
use Rattle.std.proofs.Math.Bool.{or-false}
use Rattle.std.specs.BTreeMap.{get_by, is_at}
use Rattle.std.specs.Map.{lookup}
use denote.Ref.{Bor}
use Rattle.std.specs.Cmp.Lexicographic.{slice_cmp}
use Rattle.std.specs.Ordering.{nat_cmp}
use Rattle.std.proofs.lemmas.Map.Text.{btree_map_updates_str}
use Rattle.handlebars_html.specs.Ascii.{is_one_of}
use Rattle.handlebars_html.specs.declared.search.NamedTemplate.{NamedTemplate}
use Rattle.handlebars_names.specs.NamesView.{name_of_template}
use Rattle.handlebars_names.proofs.Places.{placed-more, read}
use Rattle.handlebars_names.proofs.templates.places_of.Goals as goal

pub templates-init : goal.templates-init
templates-init c = λ n.
    ap (λ (es : List (Bor (List ℕ) × ℕ)). is_one_of (map name_of_template c.args.list.now) n
    || is_some (lookup (is_at (λ k. slice_cmp nat_cmp n k.now)) es)) c.new-places.ensures.empty
    ∙ or-false (is_one_of (map name_of_template c.args.list.now) n)

pub templates-preserved : goal.templates-preserved
templates-preserved c = λ n.
    let ts = c.args.list.now in
    let at = c.templates.place in
    let item = c.index-list-place.result in
    let found = get_by (λ k. slice_cmp nat_cmp n k.now) c.templates.places in
    ap (λ (o : Option ℕ). is_one_of (map name_of_template (drop (at + 1) ts)) n || is_some o)
    (btree_map_updates_str item.name.now c.templates.places c.insert.new.self (Some at) c.in_ok-insert.ensures.updates n)
    ∙ placed-more (is_one_of (map name_of_template (drop (at + 1) ts)) n) (bytes_eq item.name.now n) at found
    ∙ sym (ap (λ (zs : List NamedTemplate). is_one_of (map name_of_template zs) n || is_some found)
    (read ts at item c.templates-test.true c.index-list-place.is))
    ∙ c.templates.invariant n
