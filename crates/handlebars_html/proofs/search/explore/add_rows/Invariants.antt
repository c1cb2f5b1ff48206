use Rattle.std.proofs.Common.{◌≡◌, length, map}
use Rattle.std.specs.Vec.Iter.{into_iter_items, into_iter_len}
use Rattle.handlebars_html.specs.Rows.{with_rows}
use Rattle.handlebars_html.specs.RowsView.{row_of, rows_of}
use Rattle.handlebars_html.proofs.search.explore.add_rows.Given as goal

-- The table with the rows that are left is the first one with all rows.
abbrev pub invariant-rows : goal.invariant-rows
invariant-rows l = record {
  left : with_rows (rows_of l.table) (map row_of (into_iter_items l.row-iterator))
      ≡ with_rows (rows_of l.initial.table) (map row_of (into_iter_items l.initial.row-iterator));
  sized : into_iter_len l.row-iterator ≡ length (into_iter_items l.row-iterator);
}
