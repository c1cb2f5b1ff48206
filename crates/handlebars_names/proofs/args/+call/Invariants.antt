use Rattle.std.proofs.Common.{drop}
use Rattle.handlebars_template.specs.TreeView.{hash_view, params_view}
use Rattle.handlebars_names.specs.NamesView.{faults_in, names_at}
use Rattle.handlebars_names.specs.Whys.{whys_of_hash, whys_of_list}
use Rattle.handlebars_names.proofs.Finding.{Accumulates}
use Rattle.handlebars_names.proofs.args.+call.Given as goal

abbrev pub invariant-check_params-params : goal.invariant-check_params-params
invariant-check_params-params g l =
    Accumulates l.initial.findings.items l.findings.items
    (faults_in l.location (whys_of_list (names_at (g.E.UserParts.registered l.entries) l.known) (params_view (drop l.param-index l.param-items))))
    (faults_in l.location (whys_of_list (names_at (g.E.UserParts.registered l.entries) l.known) (params_view l.param-items)))

abbrev pub invariant-check_hash-hash : goal.invariant-check_hash-hash
invariant-check_hash-hash g l =
    Accumulates l.initial.findings.items l.findings.items
    (faults_in l.location (whys_of_hash (names_at (g.E.UserParts.registered l.entries) l.known) (hash_view l._key-iterator)))
    (faults_in l.location (whys_of_hash (names_at (g.E.UserParts.registered l.entries) l.known) (hash_view l.hash.entries)))
