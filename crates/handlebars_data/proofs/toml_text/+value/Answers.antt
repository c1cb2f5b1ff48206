use Rattle.std.proofs.Common.{◌≡◌, ◌∷◌, [], arith}
use Rattle.std.specs.Vec.Iter.{into_iter_items}
use Rattle.std.proofs.lemmas.Grind.{common_steps}
use Rattle.handlebars_data.proofs.TomlItems.{next_item, no_more_items}
use Rattle.handlebars_data.proofs.toml_text.+value.Goals as goal

pub items_of-items-preserved : goal.items_of-items-preserved
items_of-items-preserved t c =
    let next : into_iter_items c.items.item-iterator ≡ c.in-Some.item ∷ into_iter_items c.next.new.self = grind (arith, common_steps) in
    next_item c.items.values.items c.push.new.self.items c.in_ok-value_of.field-0 c.in-Some.item _ _ _ _ next c.in_ok-value_of.ensures c.in_ok-push.ensures.items c.items.invariant

pub items_of-returns : goal.items_of-returns
items_of-returns t c =
    let none : into_iter_items c.items.item-iterator ≡ [] = grind (arith, common_steps) in
    no_more_items c.items.values.items _ _ _ none c.items.invariant
