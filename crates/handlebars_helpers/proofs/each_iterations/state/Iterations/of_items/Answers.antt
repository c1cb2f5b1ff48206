use Rattle.std.proofs.Common.{◌∙◌}
use Rattle.handlebars_helpers.proofs.Sizes.{length-item_count}
use Rattle.handlebars_helpers.proofs.each_iterations.state.Iterations.of_items.Goals as goal

pub returns : goal.returns
returns c =
    let vs = c.args.items.now.items in
    rw (c.iter.ensures.rest, c.deref.ensures.value, c.len.ensures ∙ c.args.items.now.ok.0 ∙ length-item_count vs)
