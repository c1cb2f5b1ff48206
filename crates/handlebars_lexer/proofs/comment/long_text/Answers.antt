use Rattle.std.proofs.Common.{◌∙◌, ap, arith}
use Rattle.std.specs.Prelude.{codes}
use Rattle.handlebars_lexer.specs.Comment.{without_back}
use Rattle.handlebars_lexer.proofs.Marks.{without_prefix-trimmed, without_back-trimmed}
use Rattle.handlebars_lexer.proofs.comment.long_text.Goals as goal

pub returns : goal.returns
returns c =
    let prefix = without_prefix-trimmed (codes "{{!--") c.args.token.now c.trim_start_matches.result.now (omega arith) c.trim_start_matches.ensures.matches in
    let back = without_back-trimmed (codes "--}}") c.trim_start_matches.result.now c.trim_end_matches.result.now (omega arith) c.trim_end_matches.ensures.matches in
    back ∙ ap (without_back (codes "--}}")) prefix
