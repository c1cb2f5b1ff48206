use Rattle.handlebars_expressions.proofs.CloseNames.{close_symbols-boundary}
use Rattle.handlebars_expressions.proofs.expression.close_name.close_name_at.Goals as goal

pub split_at-requires : goal.split_at-requires
split_at-requires c = rw (c.close_symbols_len.ensures, c.as_bytes-in-len1-up.ensures.value) (close_symbols-boundary c.args.text.now)
