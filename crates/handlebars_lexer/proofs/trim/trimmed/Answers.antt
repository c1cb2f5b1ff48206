use Rattle.std.proofs.Common.{◌∙◌, ap}
use Rattle.handlebars_base.specs.Bytes.{Text}
use Rattle.handlebars_lexer.specs.Trim.{trimmed_end}
use Rattle.handlebars_lexer.specs.TrimView.{control_view}
use Rattle.handlebars_lexer.proofs.trim.trimmed.Goals as goal

pub returns : goal.returns
returns c options is =
    rw is (c.trimmed_end.ensures ∙ ap (λ (t : Text). trimmed_end c.args.prevent_indent t (control_view c.args.after)) c.trimmed_start.ensures)
