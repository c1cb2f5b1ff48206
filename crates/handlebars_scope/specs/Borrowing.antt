-- A block of which a part is mutably borrowed: what is written to that part becomes the block's.
use Rattle.std.specs.Prelude.{String, Vec}
use Rattle.std.specs.Borrow.{Lends, MutBor, Fml}
use denote.RattleType.{RattleType}
use Rattle.std.specs.declared.alloc.Global.{Global}
use Rattle.std.specs.contracts.alloc.Global as global
use Rattle.std.specs.contracts.vec.Vec as vec
use Rattle.std.specs.contracts.string.String as text
use Rattle.std.specs.contracts.impls.GlobalAllocator.TheImpl.{ghosts}
use Rattle.handlebars_scope.specs.declared.block.BlockContext.{BlockContext}
use Rattle.handlebars_scope.specs.declared.local_vars.LocalVars.{LocalVars}
use Rattle.handlebars_scope.specs.contracts.block.BlockContext.{the_row}
use Rattle.handlebars_scope.specs.contracts.local_vars.LocalVars as variables

abbrev path_row : RattleType
path_row = vec.the_row (text.the_row global.the_row ghosts) global.the_row ghosts

abbrev pub BorrowsPath : MutBor BlockContext → MutBor (Vec (String Global) Global) → Fml
BorrowsPath s r = Lends the_row path_row s r (λ w. record (s.now) { base_path = w })

abbrev pub BorrowsVariables : MutBor BlockContext → MutBor LocalVars → Fml
BorrowsVariables s r = Lends the_row variables.the_row s r (λ w. record (s.now) { local_variables = w })
