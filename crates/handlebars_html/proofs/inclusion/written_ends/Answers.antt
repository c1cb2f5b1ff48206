use Rattle.std.proofs.Common.{map, sym, ◌∙◌}
use Rattle.handlebars_html.specs.HtmlView.{html_of}
use Rattle.handlebars_html.specs.ReadingView.{rows_at}
use Rattle.handlebars_html.proofs.NamedEnds.{included_ends-other}
use Rattle.handlebars_html.proofs.inclusion.written_ends.Goals as goal

pub returns-else-is_partial_block : goal.returns-else-is_partial_block
returns-else-is_partial_block c =
    rw (included_ends-other (rows_at c.args.reading) c.args.name.now (map html_of c.args.states.now)
    (sym c.is_partial_block.ensures ∙ c.if-is_partial_block.false)) c.named_ends.ensures
