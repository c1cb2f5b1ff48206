use Rattle.std.proofs.Common.{◌≡◌, ◌≤◌, drop, length, option_map, string_bytes, IfSome}
use Rattle.serde_json.specs.View.{view}
use Rattle.handlebars_scope.specs.Resolve.{longest}
use Rattle.handlebars_scope.specs.ResolutionView.{hit_of, names_in}
use Rattle.handlebars_scope.proofs.Prefixes.{or_before}
use Rattle.handlebars_scope.proofs.context.prefixes.longest.Given as goal

-- what is found from here on, or was found before, is the result
abbrev pub invariant-loop-retained : goal.invariant-loop-retained
invariant-loop-retained l =
    (or_before l.retained (view l.here) (names_in (drop l.retained l.base)) (string_bytes l.name) (option_map hit_of l.best)
    ≡ longest (view l.given) (names_in l.base) (string_bytes l.name))
    × IfSome l.best (λ hit. hit.0 ≤ length l.base)
