-- Changed data, as a user-defined helper is passed it.
use Rattle.std.proofs.Common.{◌≡◌, Option, Some, None, option_map, ap}
use denote.Ref.{Bor}
use Rattle.handlebars_scope.specs.Contexts.{data_of}
use Rattle.handlebars_scope.specs.declared.context.Context.{Context}

-- a borrow of changed data is of the same data
pub changed-seen : (borrowed : Option (Bor Context)) {changed : Option Context} → option_map (λ c. c.now) borrowed ≡ changed
    → option_map (λ c. data_of c.now) borrowed ≡ option_map data_of changed
changed-seen None is = ap (option_map data_of) is
changed-seen (Some c) is = ap (option_map data_of) is
