use Rattle.std.proofs.Common.{◌≡◌, string_bytes}
use Rattle.std.specs.VecDeque.Iter.{deque_iter_rest}
use Rattle.handlebars_base.specs.PathView.{segments_of}
use Rattle.handlebars_scope.specs.Resolve.{resolution_of_name}
use Rattle.handlebars_scope.specs.ScopeView.{frames_of}
use Rattle.handlebars_scope.proofs.context.resolution.resolution_of_name.Given as goal

-- none of the blocks so far binds the name, so the rest decide
abbrev pub invariant-loop-block : goal.invariant-loop-block
invariant-loop-block l =
    resolution_of_name (frames_of (deque_iter_rest l.block-iterator)) (string_bytes l.name) (segments_of l.rest)
    ≡ resolution_of_name (frames_of l.blocks.items) (string_bytes l.name) (segments_of l.rest)
