use Rattle.std.proofs.Common.{map, string_bytes}
use Rattle.handlebars_html.proofs.Listed.{DecoratorsSoFar}
use Rattle.handlebars_html.proofs.others.listed_decorators.Given as goal

abbrev pub invariant-names : goal.invariant-names
invariant-names g l =
    DecoratorsSoFar (g.E.UserParts.registered l.entries).decorator
    (map string_bytes l.others.items) (map string_bytes l.name-iterator) (map string_bytes l.names.keys)
