use Rattle.std.proofs.Common.{◌≡◌, ◌++◌, drop, map, string_bytes, true}
use Rattle.serde_json.specs.View.{view}
use Rattle.handlebars_helpers.specs.CallView.{plain_value}
use Rattle.handlebars_helpers.specs.LogLine.{line_text}
use Rattle.handlebars_values.specs.ParamView.{argument_view}
use Rattle.handlebars_values.proofs.log_line.line_text.Given as goal

-- the line so far, followed by the text of the values that are left, is the whole line
abbrev pub invariant-constants : goal.invariant-constants
invariant-constants l =
    string_bytes l.line ++ line_text l.first (map (λ v. plain_value (view v)) (drop l.constant-index l.constants) ++ map argument_view l.fn.params)
    ≡ line_text true (map (λ v. plain_value (view v)) l.constants ++ map argument_view l.fn.params)

abbrev pub invariant-params : goal.invariant-params
invariant-params l =
    string_bytes l.line ++ line_text l.first (map argument_view (drop l.param-index l.params))
    ≡ line_text true (map (λ v. plain_value (view v)) l.fn.constants ++ map argument_view l.params)
