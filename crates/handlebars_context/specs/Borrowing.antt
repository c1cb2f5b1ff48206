-- What becomes of a render context whose nearest scope frame is borrowed: a write through the borrow changes the context.
use Rattle.std.specs.Prelude.{Option}
use Rattle.std.specs.Borrow.{LendsIf, MutBor, Fml}
use Rattle.std.specs.VecDeque.{deque_with_item}
use Rattle.handlebars_scope.specs.declared.block.BlockContext.{BlockContext}
use Rattle.handlebars_scope.specs.contracts.block.BlockContext as block
use Rattle.handlebars_context.specs.declared.context.RenderContext.{RenderContext}
use Rattle.handlebars_context.specs.contracts.context.RenderContext.{the_row}

-- Without any scope frame the context is unchanged.
abbrev pub BorrowsBlock : MutBor RenderContext → Option (MutBor BlockContext) → Fml
BorrowsBlock s r = LendsIf the_row block.the_row s r
    (λ w. record (s.now) { blocks = deque_with_item s.now.blocks 0 w }) s.now
