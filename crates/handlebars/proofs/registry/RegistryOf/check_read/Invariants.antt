use Rattle.handlebars_markup.proofs.Finding.{Accumulates}
use Rattle.handlebars.specs.Files.{overlaid_on, tree_in}
use Rattle.handlebars.specs.Markup.{faults_under_all, key_names}
use Rattle.handlebars.specs.View.{stored_tree}
use Rattle.handlebars.proofs.registry.RegistryOf.check_read.Given as goal

abbrev pub invariant-names : goal.invariant-names
invariant-names g l =
    Accumulates l.fn.faults.items l.faults.items
    (faults_under_all (g.E.UserParts.registered l.self.entries) (overlaid_on (tree_in l.read) (stored_tree l.self)) (key_names l.name-iterator))
    (faults_under_all (g.E.UserParts.registered l.self.entries) (overlaid_on (tree_in l.read) (stored_tree l.self)) (key_names l.read.entries))
