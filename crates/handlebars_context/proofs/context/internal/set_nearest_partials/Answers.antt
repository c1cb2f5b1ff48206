use Rattle.std.proofs.Common.{Some}
use Rattle.handlebars_scope.specs.ScopeView.{frame_of, partials_named}
use Rattle.handlebars_context.proofs.Nearest.{nearest-frame, nearest-put}
use Rattle.handlebars_context.proofs.context.internal.set_nearest_partials.Goals as goal

pub returns-in-Some : goal.returns-in-Some
returns-in-Some c = nearest-put c.args.blocks.now.items (frame_of c.in-Some.block.now) c.set_local_partials.new.self
    (partials_named c.args.partials)
    (nearest-frame c.args.blocks.now.items (Some c.in-Some.block) c.in-Some.ensures.item) c.set_local_partials.ensures
