use Rattle.std.proofs.Common.{subst, Option}
use Rattle.std.specs.Prelude.{OnOk}
use Rattle.handlebars_base.specs.Bytes.{Text}
use Rattle.handlebars_helpers.specs.Callee.{Callee}
use Rattle.handlebars_template.specs.TreeView.{params_view}
use Rattle.handlebars_names.specs.NamesView.{AddsFindings, faults_in, whys_in}
use Rattle.handlebars_names.specs.Whys.{whys_of_helper}
use Rattle.handlebars_names.proofs.Callees.{called-there}
use Rattle.handlebars_names.proofs.callee.check_hook.Goals as goal

pub returns-in-Some : goal.returns-in-Some
returns-in-Some g c =
    let helper = (g.E.UserParts.registered c.args.entries.now).helper in
    let adds = λ (k : Option Callee) (n : Text). OnOk c.check_callee.result (AddsFindings c.args.findings.now.items
    c.check_callee.new.findings.items (faults_in c.args.location (whys_of_helper k n (params_view c.args.params.now) (whys_in c.args.without)))) in
    let name = c.hook_name-name.result.now in
    subst (λ (n : Text). adds (helper n) n) c.hook_name-name.ensures
    (subst (λ (k : Option Callee). adds k name) (called-there helper name c.helper.result c.in-Some.callee c.helper.ensures c.in-Some.is)
    (c.check_callee.ensures (whys_in c.args.without)))
