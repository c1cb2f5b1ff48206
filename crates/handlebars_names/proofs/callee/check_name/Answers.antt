use Rattle.std.proofs.Common.{subst, Option}
use Rattle.std.specs.Prelude.{OnOk}
use Rattle.handlebars_helpers.specs.Callee.{Callee}
use Rattle.handlebars_semantics.specs.State.{hook}
use Rattle.handlebars_template.specs.TreeView.{params_view}
use Rattle.handlebars_names.specs.NamesView.{AddsFindings, faults_in, whys_in}
use Rattle.handlebars_names.specs.Whys.{whys_of_helper}
use Rattle.handlebars_names.proofs.Callees.{called-there}
use Rattle.handlebars_names.proofs.callee.check_name.Goals as goal

pub returns-in-Some : goal.returns-in-Some
returns-in-Some g c =
    let helper = (g.E.UserParts.registered c.args.entries.now).helper in
    let ps = params_view c.args.params.now in
    let name = c.args.name.now in
    let without = whys_of_helper (helper (hook c.args.block)) (hook c.args.block) ps (whys_in c.args.without) in
    subst (λ (k : Option Callee). OnOk c.check_callee.result (AddsFindings c.args.findings.now.items c.check_callee.new.findings.items
    (faults_in c.args.location (whys_of_helper k name ps without))))
    (called-there helper name c.helper.result c.in-Some.callee c.helper.ensures c.in-Some.is) (c.check_callee.ensures without)
