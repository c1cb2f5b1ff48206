use Rattle.handlebars.specs.Over.{setting_under}
use Rattle.handlebars.proofs.Agreement as agreement
use Rattle.handlebars.proofs.AnswerLaws.{FromName-one, FromSource-one, has_one_answer}
use Rattle.handlebars.proofs.OverLaws.{over-lawful}
use Rattle.handlebars.proofs.laws.calls_agree.Goals as goal

pub returns-clause-names : goal.returns-clause-names
returns-clause-names g c = λ name d read.
    let over = setting_under g.E.UserParts.registered g.E.UserParts.user read c.args.registry.now d in
    agreement.calls_agree over _ (has_one_answer over
    (over-lawful g.E.UserParts.registered g.E.UserParts.user c.args.registry.now d read c.satisfies_law.ensures) _ (FromName-one _ name))

pub returns-clause-sources : goal.returns-clause-sources
returns-clause-sources g c = λ source d read.
    let over = setting_under g.E.UserParts.registered g.E.UserParts.user read c.args.registry.now d in
    agreement.calls_agree over _ (has_one_answer over
    (over-lawful g.E.UserParts.registered g.E.UserParts.user c.args.registry.now d read c.satisfies_law.ensures) _ (FromSource-one _ source))

pub returns-clause-ended_by_name : goal.returns-clause-ended_by_name
returns-clause-ended_by_name g c = λ name d read. agreement.ends_unbroken _ _

pub returns-clause-ended_by_source : goal.returns-clause-ended_by_source
returns-clause-ended_by_source g c = λ source d read. agreement.ends_unbroken _ _
