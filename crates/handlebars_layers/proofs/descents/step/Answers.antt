use Rattle.std.proofs.Common.{◌++◌, ◌∷◌, ◌∙◌, [], Bor, ap, option_map, string_bytes, sym}
use Rattle.serde_json.specs.View.{view}
use Rattle.serde_json.specs.declared.value.Value.{Value}
use Rattle.handlebars_layers.proofs.Under.{step-leads, step-nowhere, step-stops}
use Rattle.handlebars_layers.proofs.descents.step.Goals as goal

pub returns-in_default : goal.returns-in_default
returns-in_default c = λ d before names walked.
    let node = ap (option_map (λ (v : Bor Value). view v.now)) c.in_default.is in
    let there = step-nowhere d (string_bytes c.args.name.now) (string_bytes c.args.link.now) before _ walked.0 (sym node ∙ walked.1) in
    (there.0, node ∙ there.1)

pub returns-in-Some-value_by_name : goal.returns-in-Some-value_by_name
returns-in-Some-value_by_name c = λ d before names walked.
    let node = ap (option_map (λ (v : Bor Value). view v.now)) c.in-Some.is in
    step-leads d (string_bytes c.args.name.now) (string_bytes c.args.link.now) before _ walked.0
    (view c.in-Some.here.now) (view c.in-Some-value_by_name.next.now) _ (sym node ∙ walked.1) c.in-Some-value_by_name.ensures
    (c.hit_or.ensures (before ++ string_bytes c.args.link.now ∷ []) names)

pub returns-in-None : goal.returns-in-None
returns-in-None c = λ d before names walked.
    let node = ap (option_map (λ (v : Bor Value). view v.now)) c.in-Some.is in
    step-stops d (string_bytes c.args.name.now) (string_bytes c.args.link.now) before _ walked.0
    (view c.in-Some.here.now) (sym node ∙ walked.1) c.in-None.ensures
