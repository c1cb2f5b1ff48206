use Rattle.std.proofs.Common.{◌++◌, ap, sym, ◌∙◌}
use Rattle.handlebars_semantics.specs.Inclusion.{hash_data}
use Rattle.handlebars_layers.specs.FrameValues.{hash_values}
use Rattle.handlebars_layers.specs.declared.destination.FrameValue.TheVariants.{Json}
use Rattle.handlebars_values.specs.View.{arguments_seen}
use Rattle.handlebars_values.proofs.BoundHash.{hash_values-push}
use Rattle.handlebars_values.proofs.inclusion.bound_hash.Goals as goal

pub hash-preserved : goal.hash-preserved
hash-preserved c =
    hash_values-push c.hash.bound.items c.push.new.self.items c.in-Some.key.now (Json c.json.result)
    (hash_data (arguments_seen c.next.new.self)) c.in_ok-push.ensures.items c.json.ensures
    ∙ ap (λ hs. hash_values c.hash.bound.items ++ hash_data (arguments_seen hs)) (sym c.in-Some.ensures.steps) ∙ c.hash.invariant
