use Rattle.std.proofs.lemmas.Result.{IfOk-weaker}
use Rattle.test_api.proofs.pages.rendered_anew.Goals as goal

pub returns-clause-text : goal.returns-clause-text
returns-clause-text g c = IfOk-weaker c.render_with_context.result _ _
    (λ text has. (c.register_template_file.new.files, has)) c.render_with_context.ensures.ok
