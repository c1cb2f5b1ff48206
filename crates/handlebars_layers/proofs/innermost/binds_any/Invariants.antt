use Rattle.std.specs.Prelude.{false}
use Rattle.std.specs.VecDeque.Iter.{deque_iter_rest}
use Rattle.handlebars_scope.specs.ScopeView.{frames_of}
use Rattle.handlebars_layers.specs.Binding.{BindsSome, MayBind}
use Rattle.handlebars_layers.proofs.innermost.binds_any.Given as goal

-- no frame so far binds a name, so those that are left decide
abbrev pub invariant-loop-frame : goal.invariant-loop-frame
invariant-loop-frame l = record {
  none : MayBind false (frames_of (deque_iter_rest l.frame-iterator)) → MayBind false (frames_of l.frames.items);
  some : BindsSome (frames_of (deque_iter_rest l.frame-iterator)) → BindsSome (frames_of l.frames.items);
}
