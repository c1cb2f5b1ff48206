use Rattle.std.proofs.Common.{◌≡◌, rules, sym, ◌∙◌}
use Rattle.handlebars_base.specs.Texts.{starts}
use Rattle.handlebars_expressions.specs.LiteralReading.{begins_name}
use Rattle.handlebars_expressions.proofs.LiteralNames.{no_literal}
use Rattle.handlebars_expressions.proofs.literal.starts_name.Goals as goal

pub returns-in-len1-up-clause-none : goal.returns-in-len1-up-clause-none
returns-in-len1-up-clause-none c is =
    let prefix : c.begins_name.result ≡ starts begins_name c.args.text.now = search rules in
    no_literal c.args.text.now (sym prefix ∙ is)
