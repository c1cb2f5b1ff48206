use Rattle.std.proofs.Common.{◌∙◌}
use Rattle.handlebars_helpers.proofs.Sizes.{length-member_count}
use Rattle.handlebars_helpers.proofs.each_iterations.state.Iterations.of_members.Goals as goal

pub returns : goal.returns
returns c = rw (c.iter.ensures.rest, c.len.ensures.len ∙ length-member_count c.args.members.now.entries)
