use Rattle.handlebars_values.proofs.dispatch.dispatch.Goals as goal

pub returns-in-Local : goal.returns-in-Local
returns-in-Local g c = λ h same. rw c.in-Local.is (c.dispatch_local.ensures h)
