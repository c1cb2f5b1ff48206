use Rattle.std.proofs.Common.{refl, ◌∙◌, ap}
use Rattle.handlebars_base.specs.Reasons.{invalid_json_path}
use Rattle.handlebars_base.specs.RenderRefusals.{plain_refusal}
use Rattle.handlebars_base.proofs.json.path.Path.parse.Goals as goal

pub returns-in_ok-from_str-in-None-clause-err : goal.returns-in_ok-from_str-in-None-clause-err
returns-in_ok-from_str-in-None-clause-err c = λ _. (
  c.into.ensures ∙ ap (λ name. plain_refusal (invalid_json_path name)) c.in_ok-from_str-in-None.ensures.ok,
  (rw c.in-None.is at c.in_ok-path.ensures.none).0 refl,
)
