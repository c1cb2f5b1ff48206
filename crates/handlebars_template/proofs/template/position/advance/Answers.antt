use Rattle.std.proofs.Common.{◌∙◌, sym, ap, true}
use Rattle.std.specs.Prelude.{fold}
use Rattle.handlebars_template.specs.TreeView.{position_of}
use Rattle.handlebars_template.proofs.Columns.{still_columns, position_after-columns}
use Rattle.handlebars_template.proofs.template.position.advance.Goals as goal

pub returns-then-are_columns : goal.returns-then-are_columns
returns-then-are_columns c =
    position_after-columns (position_of c.args.position) c.args.text.now c.utf8.text
    (ap (fold still_columns true) (sym c.as_bytes.ensures.value) ∙ sym c.are_columns.ensures ∙ c.if-are_columns.true)
