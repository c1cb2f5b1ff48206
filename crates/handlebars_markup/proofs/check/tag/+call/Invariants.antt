use Rattle.std.proofs.Common.{drop}
use Rattle.handlebars_template.specs.TreeView.{hash_view, params_view}
use Rattle.handlebars_markup.specs.Faults.{whys_of_hash, whys_of_params}
use Rattle.handlebars_markup.specs.FaultsView.{faults_in}
use Rattle.handlebars_markup.proofs.Finding.{Accumulates}
use Rattle.handlebars_markup.proofs.check.tag.+call.Given as goal

abbrev pub invariant-check_params-params : goal.invariant-check_params-params
invariant-check_params-params g l =
    Accumulates l.initial.faults.items l.faults.items
    (faults_in l.location (whys_of_params (g.E.UserParts.registered l.entries) (params_view (drop l.param-index l.param-items))))
    (faults_in l.location (whys_of_params (g.E.UserParts.registered l.entries) (params_view l.param-items)))

abbrev pub invariant-check_hash-hash : goal.invariant-check_hash-hash
invariant-check_hash-hash g l =
    Accumulates l.initial.faults.items l.faults.items
    (faults_in l.location (whys_of_hash (g.E.UserParts.registered l.entries) (hash_view l._key-iterator)))
    (faults_in l.location (whys_of_hash (g.E.UserParts.registered l.entries) (hash_view l.hash.entries)))
