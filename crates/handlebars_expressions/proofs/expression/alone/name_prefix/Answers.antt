use Rattle.std.proofs.Common.{◌∙◌, sym, ap}
use Rattle.handlebars_base.specs.Texts.{starts}
use Rattle.handlebars_base.proofs.OptionBinds.{nonempty}
use Rattle.handlebars_expressions.specs.Alone.{is_path_mark}
use Rattle.handlebars_expressions.proofs.Alone.{symbols_name, name_token}
use Rattle.handlebars_expressions.proofs.expression.alone.name_prefix.Goals as goal

pub returns-clause-token : goal.returns-clause-token
returns-clause-token c =
    rw (c.symbols.ensures.prefix, c.symbols.ensures.rest)
    (name_token c.args.text.now (rw c.symbols.ensures.prefix at (nonempty c.symbols.result.0.now (sym c.if-is_empty.false ∙ c.is_empty.ensures)))
    (ap (starts is_path_mark) (sym c.symbols.ensures.rest) ∙ sym c.starts_path_mark.ensures ∙ c.if-starts_path_mark.false))

pub returns-clause-name : goal.returns-clause-name
returns-clause-name c =
    rw c.symbols.ensures.prefix
    (symbols_name c.args.text.now (rw c.symbols.ensures.prefix at (nonempty c.symbols.result.0.now (sym c.if-is_empty.false ∙ c.is_empty.ensures))))
