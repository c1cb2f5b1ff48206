use Rattle.std.proofs.Common.{sym, ◌∙◌}
use Rattle.handlebars_expressions.proofs.CloseNames.{enclosed-boundary}
use Rattle.handlebars_expressions.proofs.expression.close_name.enclosed_at.Goals as goal

pub split_at-requires : goal.split_at-requires
split_at-requires c =
    enclosed-boundary c.args.text.now c.args.mark c.in-Some.n c.utf8.text c.requires
    (rw (c.as_bytes.ensures.value) at (sym c.index_after_first.ensures ∙ c.in-Some.is))
