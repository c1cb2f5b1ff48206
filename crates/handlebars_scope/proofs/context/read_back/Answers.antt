use Rattle.std.proofs.Common.{ap, inr, sym, ◌∙◌}
use Rattle.serde_json.specs.Read.{read}
use Rattle.handlebars_scope.proofs.context.read_back.Goals as goal

pub returns-in-Ok-from_str-clause-ok : goal.returns-in-Ok-from_str-clause-ok
returns-in-Ok-from_str-clause-ok g c =
    (c.in-Ok.text, c.in-Ok.ensures, ap read (sym c.as_str.ensures.value) ∙ c.in-Ok-from_str.ensures.ok)

pub returns-in-Ok-clause-err : goal.returns-in-Ok-clause-err
returns-in-Ok-clause-err g c =
    λ other. inr (c.in-Ok.text, c.in-Ok.ensures, ap read (sym c.as_str.ensures.value) ∙ c.in-Err-from_str.ensures.err other)
