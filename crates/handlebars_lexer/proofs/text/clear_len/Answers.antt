use Rattle.std.proofs.Common.{◌∙◌, sym, ap}
use Rattle.handlebars_lexer.specs.TextReading.{ends_with_backslash}
use Rattle.handlebars_lexer.specs.TextView.{braces_of}
use Rattle.handlebars_lexer.proofs.Texts.{clear_len-before_brace}
use Rattle.handlebars_lexer.proofs.text.clear_len.Goals as goal

pub clear_from-requires-else-ends_with_backslash-clause-clear : goal.clear_from-requires-else-ends_with_backslash-clause-clear
clear_from-requires-else-ends_with_backslash-clause-clear c =
    rw c.before_brace-prefix.ensures
    (clear_len-before_brace (braces_of c.args.until) c.args.text.now
    (ap ends_with_backslash (sym c.before_brace-prefix.ensures) ∙ sym c.ends_with_backslash.ensures ∙ c.if-ends_with_backslash.false))
