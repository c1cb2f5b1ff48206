-- The law of the check of names for the answers of calls.
use Rattle.handlebars_semantics.specs.Answer.{Beginning, not_begun, has_begun}
use Rattle.handlebars_semantics.specs.State.{Setting}
use Rattle.handlebars_names.specs.Checked.{without_tree, with_tree, KeepsAnswersKnown}
use Rattle.handlebars_names.proofs.Accepted.{accepted_fail_only_so}

pub keeps_answers_known : (p : Setting) (begins : Beginning → Type 0) → KeepsAnswersKnown p begins
keeps_answers_known p begins known pass ps o (not_begun b) = without_tree b
keeps_answers_known p begins known pass ps o (has_begun {t = t} b r) =
    let page = known t b in
    let says = page.2 in
    with_tree (accepted_fail_only_so p says.names says.are pass says.templates says.all page.0 says.verdict t page.1
    p.parts.recursive ps o r)
