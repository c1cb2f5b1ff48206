use Rattle.handlebars_expressions.proofs.Prefixes.{run_boundary}
use Rattle.handlebars_expressions.proofs.marks.run.Goals as goal

pub split_at-requires : goal.split_at-requires
split_at-requires c = rw (c.run_len.ensures, c.as_bytes.ensures.value) (run_boundary c.args.text.now)
