use Rattle.std.proofs.lemmas.Result.{IfOk-weaker}
use Rattle.handlebars_names.specs.NamesView.{page_of, verdict_of}
use Rattle.handlebars.proofs.HtmlTemplates.{listed-both}
use Rattle.handlebars.proofs.NamesRead.{says-maps}
use Rattle.handlebars.proofs.registry.RegistryOf.check_page_names.Goals as goal

pub returns : goal.returns
returns g c =
    IfOk-weaker c.check_names.result _ _ (λ v is.
    says-maps g.E.UserParts.registered g.E.UserParts.user c.args.self.now (page_of c.args.page) (verdict_of v)
    c.args.read.now c.deref.result.now
    c.names_are_in_order.ensures c.names_are_in_order-2.ensures
    (listed-both c.new-templates.result.items c.list_read.new.templates.items c.list_stored.new.templates.items c.deref.result.now _ _
    c.new-templates.ensures.items c.in_ok-list_read.ensures c.in_ok-list_stored.ensures c.deref.ensures.value) is)
    c.check_names.ensures
