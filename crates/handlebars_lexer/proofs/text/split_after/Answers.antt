use Rattle.std.proofs.Common.{arith, ◌≡◌, ◌+◌, ◌-◌}
use Rattle.std.proofs.lemmas.Str.{IsCharBoundary-after_ascii}
use Rattle.handlebars_lexer.proofs.text.split_after.Goals as goal

pub split_at-requires : goal.split_at-requires
split_at-requires c =
    let one : c.args.len - 1 + 1 ≡ c.args.len = omega arith in
    rw (← one) (IsCharBoundary-after_ascii c.args.text.now (c.args.len - 1) c.utf8.text (omega arith) c.requires.ascii)
