use Rattle.std.proofs.Common.{Some}
use Rattle.handlebars_scope.specs.ScopeView.{frame_of, partials_named}
use Rattle.handlebars_context.proofs.Nearest.{nearest-frame, nearest-taken}
use Rattle.handlebars_context.proofs.context.internal.take_nearest_partials.Goals as goal

pub returns-in-Some : goal.returns-in-Some
returns-in-Some c = nearest-taken c.args.blocks.now.items (frame_of c.in-Some.block.now) c.take_local_partials.new.self
    (partials_named c.take_local_partials.result)
    (nearest-frame c.args.blocks.now.items (Some c.in-Some.block) c.in-Some.ensures.item)
    c.take_local_partials.ensures.taken c.take_local_partials.ensures.left
