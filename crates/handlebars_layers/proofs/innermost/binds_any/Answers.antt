use Rattle.std.proofs.Common.{List, false, subst, sym}
use Rattle.std.specs.VecDeque.Iter.{deque_iter_rest}
use Rattle.handlebars_scope.specs.ScopeView.{frame_of, frames_of}
use Rattle.handlebars_scope.specs.declared.block.BlockContext.{BlockContext}
use Rattle.handlebars_layers.specs.Binding.{BindsSome, MayBind}
use Rattle.handlebars_layers.proofs.Unbound.{first-binds, nothing-bound, rest-binds}
use Rattle.handlebars_layers.proofs.innermost.binds_any.Goals as goal

pub returns-then-not-has_no_bound_names-clause-some : goal.returns-then-not-has_no_bound_names-clause-some
returns-then-not-has_no_bound_names-clause-some c is = c.loop-frame.invariant.some
    (subst (λ (bs : List BlockContext). BindsSome (frames_of bs)) (sym c.in-Some.ensures.steps)
    (first-binds (frame_of c.in-Some.frame.now) (frames_of (deque_iter_rest c.next.new.self)) (c.has_no_bound_names.ensures.some c.if-not-has_no_bound_names.true)))

pub loop-frame-preserved : goal.loop-frame-preserved
loop-frame-preserved c = record {
  none = λ left. c.loop-frame.invariant.none
      (subst (λ (bs : List BlockContext). MayBind false (frames_of bs)) (sym c.in-Some.ensures.steps)
      (nothing-bound (frame_of c.in-Some.frame.now) (c.has_no_bound_names.ensures.none c.if-not-has_no_bound_names.false), left));
  some = λ left. c.loop-frame.invariant.some
      (subst (λ (bs : List BlockContext). BindsSome (frames_of bs)) (sym c.in-Some.ensures.steps)
      (rest-binds (frame_of c.in-Some.frame.now) (frames_of (deque_iter_rest c.next.new.self)) left));
}
