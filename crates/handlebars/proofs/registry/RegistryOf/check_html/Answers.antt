use Rattle.std.proofs.Common.{map}
use Rattle.std.proofs.lemmas.Result.{IfOk-weaker}
use Rattle.handlebars_html.specs.SearchView.{pages_of, template_of, user_defined_of, verdict_of}
use Rattle.handlebars.proofs.HtmlRead.{says-maps}
use Rattle.handlebars.proofs.HtmlTemplates.{listed-both}
use Rattle.handlebars.proofs.registry.RegistryOf.check_html.Goals as goal

pub returns : goal.returns
returns g c =
    IfOk-weaker c.check_pages.result _ _ (λ v is.
    says-maps g.E.UserParts.registered g.E.UserParts.user c.args.self.now (pages_of c.args.pages) (verdict_of v)
    (user_defined_of c.in_ok-user.user) c.args.read.now (map template_of c.deref.result.now) c.in_ok-user.ensures
    c.names_are_in_order.ensures c.names_are_in_order-2.ensures
    (listed-both c.new-templates.result.items c.list_read.new.templates.items c.list_stored.new.templates.items c.deref.result.now _ _
    c.new-templates.ensures.items c.in_ok-list_read.ensures c.in_ok-list_stored.ensures c.deref.ensures.value) is)
    c.check_pages.ensures
