use Rattle.std.proofs.lemmas.Result.{IfOk-weaker}
use Rattle.handlebars.proofs.WithoutFiles.{without-files}
use Rattle.test_api.proofs.caller.rendered_with_helper.Goals as goal

pub returns-clause-text : goal.returns-clause-text
returns-clause-text g c = IfOk-weaker c.render_template_with_context.result _ _
    (λ text read. without-files _ (λ s t path text h. h.0) _ read) c.render_template_with_context.ensures.ok
