use Rattle.handlebars_data.specs.declared.rows.Delimiter.TheVariants.{Comma, Tab}
use Rattle.handlebars_data.proofs.TableReads.{has_bad}
use Rattle.handlebars_data.proofs.format.read_data.Goals as goal

pub returns-in-Csv-clause-refused : goal.returns-in-Csv-clause-refused
returns-in-Csv-clause-refused c = rw c.in-Csv.is (has_bad Comma c.args.bytes.now c.read_rows.result c.read_rows.ensures.refused)

pub returns-in-Tsv-clause-refused : goal.returns-in-Tsv-clause-refused
returns-in-Tsv-clause-refused c = rw c.in-Tsv.is (has_bad Tab c.args.bytes.now c.read_rows-in-Tsv.result c.read_rows-in-Tsv.ensures.refused)
