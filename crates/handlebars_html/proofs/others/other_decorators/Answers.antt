use Rattle.std.proofs.lemmas.Result.{IfOk-weaker}
use Rattle.handlebars_html.proofs.Listed.{inline-added}
use Rattle.handlebars_html.proofs.others.other_decorators.Goals as goal

pub returns : goal.returns
returns g c =
    IfOk-weaker c.listed_decorators.result _ _ (λ ns listed. listed
    (inline-added c.in_ok-names.names c.insert.new.self c.in_ok-from_str.field-0 (g.E.UserParts.registered c.args.entries.now).decorator
    c.in_ok-names.ensures c.in_ok-from_str.ensures.ok c.in_ok-insert.ensures.updates)) c.listed_decorators.ensures
