use Rattle.std.proofs.Common.{◌≡◌, ◌&&◌, ◌||◌, drop, map}
use Rattle.serde_json.specs.View.{view}
use Rattle.handlebars_helpers.specs.Boolean.{all_true, some_true}
use Rattle.handlebars_helpers.specs.CallView.{plain_value}
use Rattle.handlebars_values.proofs.boolean.Truths.of.Given as goal

-- what holds so far, with the constants that are left, holds of all constants
abbrev pub invariant-constants : goal.invariant-constants
invariant-constants l = record {
  all : (l.truths.all && all_true (map (λ v. plain_value (view v)) (drop l.constant-index l.constants)))
      ≡ all_true (map (λ v. plain_value (view v)) l.constants);
  some : (l.truths.some || some_true (map (λ v. plain_value (view v)) (drop l.constant-index l.constants)))
      ≡ some_true (map (λ v. plain_value (view v)) l.constants);
}
