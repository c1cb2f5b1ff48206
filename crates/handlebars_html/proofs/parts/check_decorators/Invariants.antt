use Rattle.std.proofs.Common.{drop, map}
use Rattle.std.specs.Prelude.{string_bytes}
use Rattle.handlebars_html.specs.Faults.{user_decorator}
use Rattle.handlebars_html.proofs.Appended.{AppendsFrom}
use Rattle.handlebars_html.proofs.parts.check_decorators.Given as goal

abbrev pub invariant-decorators : goal.invariant-decorators
invariant-decorators l =
    AppendsFrom l.initial.faults.items l.faults.items (map (λ n. user_decorator n) (map string_bytes (drop l.name-index l.decorators))) (map (λ n. user_decorator n) (map string_bytes l.decorators))
