use Rattle.std.proofs.Common.{sym, ap, ◌∙◌}
use Rattle.handlebars_scope.specs.LineView.{line_of}
use Rattle.handlebars_scope.specs.LineState.{line_after_text}
use Rattle.handlebars_scope.proofs.Lines.{line_after_text-escaped, line_after_text-composed, line_after_text-number, line_after_text-shown}
use Rattle.handlebars_base.proofs.ShownValues.{escaped-null, rendered-string}
use Rattle.handlebars_scope.proofs.line.LineState.after_value.Goals as goal

pub returns-in-Null : goal.returns-in-Null
returns-in-Null c = λ escapes. sym (line_after_text-shown escapes c.args.value.now (line_of c.args.self)
    ∙ ap (λ t. line_after_text t (line_of c.args.self)) (escaped-null c.args.value.now c.in-Null.is))

pub returns-in-Number : goal.returns-in-Number
returns-in-Number c = λ escapes. sym (line_after_text-shown escapes c.args.value.now (line_of c.args.self)
    ∙ line_after_text-number c.args.value.now c.in-Number.number (line_of c.args.self) c.in-Number.is
    ∙ sym c.after_number.ensures)

pub returns-in-String : goal.returns-in-String
returns-in-String c = λ escapes. sym (line_after_text-shown escapes c.args.value.now (line_of c.args.self)
    ∙ sym (rw (rendered-string c.args.value.now c.in-String.text c.in-String.is)
    (c.after.ensures ∙ ap (λ t. line_after_text t (line_of c.args.self)) c.as_str.ensures.value ∙ sym (line_after_text-escaped _ (line_of c.args.self)))))

pub returns-in-Bool : goal.returns-in-Bool
returns-in-Bool c = λ escapes. sym (line_after_text-shown escapes c.args.value.now (line_of c.args.self)
    ∙ sym (c.line_after.ensures ∙ sym (line_after_text-composed c.args.value.now (line_of c.args.self) c.in-Bool.is)))
