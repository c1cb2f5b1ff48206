use Rattle.std.proofs.Common.{◌++◌, ◌≡◌, append_assoc, ap, codes, lit<, string_bytes, sym, ◌∙◌}
use Rattle.serde_json.specs.Written.{compact_text, has_float}
use Rattle.handlebars_report.specs.Json.{problem_json}
use Rattle.handlebars_report.specs.View.{problem_view}
use Rattle.handlebars_report.proofs.Floats.{has_float-problem_json}
use Rattle.handlebars_report.proofs.Steps.{flat_map-map-take_more}
use Rattle.handlebars_report.proofs.report.Report.json.Goals as goal

pub problems-preserved : goal.problems-preserved
problems-preserved c =
    let p = problem_view c.problem-item.result in
    let more = flat_map-map-take_more (λ q. compact_text (problem_json q) ++ codes "\n") problem_view c.deref-problem-items.result.now c.problems.problem-index
    c.problem-item.result c.problems-test.true c.problem-item.is in
    let line : string_bytes c.in_ok-to_string.field-0 ≡ compact_text (problem_json p) =
    c.in_ok-to_string.ensures.text (ap has_float c.in_ok-object.ensures ∙ has_float-problem_json p) ∙ ap compact_text c.in_ok-object.ensures in
    c.in_ok-push.ensures.bytes
    ∙ ap (λ text. string_bytes c.push_str.new.self ++ text) (c.in_ok-push.ensures.ascii (lit< tt))
    ∙ ap (λ text. text ++ codes "\n") (c.in_ok-push_str.ensures.bytes ∙ ap (λ text. string_bytes c.problems.lines ++ text) (c.as_str.ensures.value ∙ line))
    ∙ append_assoc (string_bytes c.problems.lines) (compact_text (problem_json p)) (codes "\n")
    ∙ ap (λ text. text ++ (compact_text (problem_json p) ++ codes "\n")) c.problems.invariant
    ∙ sym more
