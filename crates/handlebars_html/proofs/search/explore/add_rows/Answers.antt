use Rattle.std.proofs.Common.{◌≡◌, List, [], ◌∷◌, map, length, refl, sym, ap, ◌∙◌, arith}
use Rattle.std.proofs.lemmas.List.{nil_from_length}
use Rattle.handlebars_html.specs.Rows as rows
use Rattle.handlebars_html.specs.Rows.{with_row, with_rows}
use Rattle.handlebars_html.specs.RowsView.{row_of}
use Rattle.handlebars_html.specs.declared.rows.Row.{Row}
use Rattle.handlebars_html.proofs.search.explore.add_rows.Goals as goal

rows-more : (now next : List rows.Row) (r : Row) (was left : List Row) (all : List rows.Row) → was ≡ r ∷ left
    → next ≡ with_row now (row_of r) → with_rows now (map row_of was) ≡ all → with_rows next (map row_of left) ≡ all
rows-more now next r was left all read adds l =
    ap (λ (zs : List rows.Row). with_rows zs (map row_of left)) adds
    ∙ ap (λ (zs : List Row). with_rows now (map row_of zs)) (sym read) ∙ l

rows-end : (first now : List rows.Row) (was given all : List Row) → was ≡ [] → given ≡ all
    → with_rows now (map row_of was) ≡ with_rows first (map row_of given) → now ≡ with_rows first (map row_of all)
rows-end first now was given all none is l =
    sym (ap (λ (zs : List Row). with_rows now (map row_of zs)) none) ∙ l
    ∙ ap (λ (zs : List Row). with_rows first (map row_of zs)) is

pub rows-init : goal.rows-init
rows-init c = record {
  left = refl;
  sized = c.into_iter-row-iterator.ensures.into_iter_gives.1 ∙ c.args.rows.ok.0
      ∙ ap length (sym c.into_iter-row-iterator.ensures.into_iter_gives.0);
}

pub rows-preserved : goal.rows-preserved
rows-preserved c =
    let was = c.rows.invariant.sized in
    let gone = c.in-Some.ensures.steps.1 in
    let short = ap length c.in-Some.ensures.steps.0 in
    record {
      left = rows-more _ _ c.in-Some.row _ _ _ c.in-Some.ensures.steps.0 c.in_ok-add.ensures.ok c.rows.invariant.left;
      sized = omega arith;
    }

pub returns : goal.returns
returns c =
    rows-end _ _ _ _ _ (nil_from_length _ (sym c.rows.invariant.sized ∙ c.in-None.ensures.steps.0))
    c.into_iter-row-iterator.ensures.into_iter_gives.0 c.rows.invariant.left
