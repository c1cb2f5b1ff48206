use Rattle.std.proofs.Common.{◌∙◌, ◌++◌, ap, map}
use Rattle.std.proofs.lemmas.Result.{IfOk-weaker}
use Rattle.handlebars_html.specs.SearchView.{template_of}
use Rattle.handlebars_names.specs.NamesView.{page_of, verdict_of}
use Rattle.hb_check.proofs.Sayings.{says-names}
use Rattle.hb_check.specs.Says.{SaysNames}
use Rattle.hb_check.specs.Sources.{templates_in}
use Rattle.hb_check.proofs.names.verdict_of.Goals as goal

pub returns : goal.returns
returns g c =
    let r = g.E.UserParts.registered c.args.entries.now in
    let ss = c.args.sources.now in
    let ts = c.deref.result.now in
    let page = page_of c.args.page in
    IfOk-weaker c.check_names.result _ (λ v. SaysNames r ss page (verdict_of v))
    (λ v says. says-names ss r ts page (verdict_of v)
    (ap (map template_of) c.deref.ensures.value ∙ c.in_ok-list.ensures
    ∙ ap (λ xs. map template_of xs ++ templates_in ss) c.new-templates.ensures.items) says)
    c.check_names.ensures
