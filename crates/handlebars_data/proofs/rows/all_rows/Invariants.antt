use Rattle.std.proofs.Common.{◌≡◌, None}
use Rattle.csv.specs.Reading.{reader_config}
use Rattle.csv.specs.Records.{AllText}
use Rattle.handlebars_data.specs.Rows.{table_config}
use Rattle.handlebars_data.specs.RowsView.{IsReady, rows_failure, rows_names, rows_reader}
use Rattle.handlebars_data.proofs.TableReads.{IsAt}
use Rattle.handlebars_data.proofs.rows.all_rows.Given as goal

abbrev pub invariant-rows : goal.invariant-rows
invariant-rows l = record {
  ready : IsReady l.rows;
  failure : rows_failure l.rows ≡ None;
  config : reader_config (rows_reader l.rows) ≡ table_config l.fn.delimiter;
  text : AllText (rows_names l.rows);
  at : IsAt l.fn.delimiter l.fn.text l.rows l.items.items;
}
