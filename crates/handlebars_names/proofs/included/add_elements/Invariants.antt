use Rattle.handlebars_names.specs.NamesView.{scope_of}
use Rattle.handlebars_names.proofs.Walked.{SetsFrom}
use Rattle.handlebars_names.proofs.included.add_elements.Given as goal

abbrev pub invariant-elements : goal.invariant-elements
invariant-elements l = SetsFrom l.element-items l.element-index (scope_of l.initial.scope) (scope_of l.scope)
