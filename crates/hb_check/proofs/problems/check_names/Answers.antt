use Rattle.std.proofs.Common.{map}
use Rattle.std.proofs.lemmas.Result.{on_ok_weaker}
use Rattle.handlebars_includes.specs.View.{graph_view, name_of, replaced_of}
use Rattle.handlebars_names.specs.NamesView.{verdict_of}
use Rattle.handlebars_template.specs.TreeView.{tree_view}
use Rattle.hb_check.specs.Chains.{AreChained}
use Rattle.hb_check.specs.Reported.{AddsSome, ReportsNames}
use Rattle.hb_check.proofs.Pages.{pages-reported}
use Rattle.hb_check.proofs.Reports.{on_ok-both}
use Rattle.hb_check.proofs.problems.check_names.Goals as goal

pub returns : goal.returns
returns g c =
    let (is, pages, source) = c.in_ok-source.ensures in
    let ss = c.args.sources.now in
    let v = verdict_of c.in_ok-verdict.verdict in
    let ways = c.in_ok-chains.chains.ways.items in
    let first = c.add_unused_problems.new.problems.items in
    let before = c.add_circle_problems.new.problems.items in
    let after = c.add_name_problems.new.problems.items in
    on_ok_weaker c.add_name_problems.result
    (λ reported. pages-reported (g.E.UserParts.registered c.args.entries.now) c.args.templates.now (map (λ n. n.now) c.args.pages.now) ss
    (graph_view c.in_ok-includes.includes) (replaced_of c.in_ok-includes.includes) is (tree_view c.in_ok-source.source) v ways c.args.problems.now.items first before after
    c.in_ok-includes.ensures.graph c.in_ok-includes.ensures.replaced c.in_ok-add_unused_problems.ensures c.in_ok-add_circle_problems.ensures pages source c.in_ok-verdict.ensures c.in_ok-chains.ensures reported.0 reported.1)
    (on_ok-both (AddsSome (ReportsNames ss v) before after) (AddsSome (AreChained ss (map name_of c.args.templates.now) ways v) before after)
    c.add_name_problems.result c.add_name_problems.ensures.reported c.add_name_problems.ensures.chained)
