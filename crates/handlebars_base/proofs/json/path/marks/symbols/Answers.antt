use Rattle.handlebars_base.proofs.json.path.marks.symbols.Goals as goal
use Rattle.handlebars_base.proofs.Runs.{symbols_boundary}

pub split_at-requires : goal.split_at-requires
split_at-requires c = rw (c.symbols_len.ensures, c.as_bytes.ensures.value) (symbols_boundary c.args.text.now)
