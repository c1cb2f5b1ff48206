use Rattle.std.proofs.Common.{◌++◌, ap, map, subst, ◌∙◌}
use Rattle.std.proofs.lemmas.Result.{on_ok_weaker}
use Rattle.hb_check.specs.Report.{ReportsPages}
use Rattle.hb_check.specs.Sources.{numbered_of, templates_in}
use Rattle.hb_check.specs.Reported.{AddsSome}
use Rattle.hb_check.proofs.Checkings.{all-reported}
use Rattle.hb_check.proofs.Pages.{hidden-reported}
use Rattle.hb_check.proofs.problems.check_all.Goals as goal

pub returns : goal.returns
returns g c =
    let r = g.E.UserParts.registered c.args.entries.now in
    let a = g.E.UserParts.user c.args.entries.now in
    let ss = c.args.sources.now in
    let listed = c.in_ok-number.ensures ∙ ap (λ xs. map numbered_of xs ++ templates_in ss) c.new-templates.ensures.items in
    on_ok_weaker c.check_html.result
    (λ reported. all-reported r a c.args.question.now ss c.args.problems.now.items c.check_names.new.problems.items
    c.add_hidden_problems.new.problems.items c.check_markup.new.problems.items c.check_html.new.problems.items
    (subst (λ xs. AddsSome (ReportsPages r xs (map (λ n. n.now) c.args.question.now.pages.now) ss) c.args.problems.now.items
    c.check_names.new.problems.items) (ap (map numbered_of) c.deref.ensures.value ∙ listed) c.in_ok-check_names.ensures)
    (hidden-reported ss c.deref-2.result.now (templates_in ss) c.check_names.new.problems.items c.add_hidden_problems.new.problems.items
    (ap (map numbered_of) c.deref-2.ensures.value ∙ listed) c.in_ok-add_hidden_problems.ensures)
    c.in_ok-check_markup.ensures reported)
    c.check_html.ensures
