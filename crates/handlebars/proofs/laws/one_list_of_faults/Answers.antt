use Rattle.handlebars_semantics.specs.Answer.{a_tree, FromSource}
use Rattle.handlebars.specs.Markup.{NoSource}
use Rattle.handlebars.proofs.AnswerLaws.{FromSource-one, a_tree-injective}
use Rattle.handlebars.proofs.MarkupOrder.{reported-once}
use Rattle.handlebars.proofs.laws.one_list_of_faults.Goals as goal

pub returns-clause-names : goal.returns-clause-names
returns-clause-names c = reported-once NoSource (λ t u begins other. absurd begins)

pub returns-clause-sources : goal.returns-clause-sources
returns-clause-sources c = λ options source.
    reported-once (FromSource options source)
    (λ t u begins other. a_tree-injective (FromSource-one options source (a_tree t) (a_tree u) begins other))
