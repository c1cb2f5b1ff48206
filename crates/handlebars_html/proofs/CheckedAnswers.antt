-- The law of the check for the answers of calls.
use Rattle.std.proofs.Common.{[], ◌∷◌}
use Rattle.handlebars_semantics.specs.Answer.{Beginning, not_begun, has_begun}
use Rattle.handlebars_semantics.specs.State.{Setting}
use Rattle.handlebars_html.specs.Checked.{KeepsAnswersSafe}
use Rattle.handlebars_html.specs.Safety.{StandSafely}
use Rattle.handlebars_html.proofs.Rounds.{accepted_keep_data_safe}

none-stand : StandSafely []
none-stand [] piece later is given = cc
none-stand (x ∷ before) piece later is given = cc

pub keeps_answers_safe : (p : Setting) (begins : Beginning → Type 0) → KeepsAnswersSafe p begins
keeps_answers_safe p begins safe ps o (not_begun b) = none-stand
keeps_answers_safe p begins safe ps o (has_begun {t = t} b r) =
    let page = safe t b in
    let says = page.2 in
    accepted_keep_data_safe p says.user says.lists says.templates says.all page.0 says.verdict t page.1
    p.parts.recursive ps o r
