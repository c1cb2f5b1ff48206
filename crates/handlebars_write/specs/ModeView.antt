-- How a rendering writes to outputs of a type.
use Rattle.std.specs.Prelude.{Bool, true, false, List, []}
use Rattle.std.specs.declared.io.Error.{Error}
use Rattle.handlebars_base.specs.Outputs.{Held}
use Rattle.handlebars_semantics.specs.Emitted.{Emitted}
use Rattle.handlebars_expand.specs.PiecesView.{texts}
use Rattle.handlebars_expand.specs.Received.{Received}

-- what an output holds, the errors that it may return, whether it receives pieces, and which it has received
pub record ModeView (O : Type 0) : Type 1 where
  pub held : O → Held
  pub may_give : Error → Type 0
  pub asks : Bool
  pub emitted : O → List Emitted

-- The mode that writes texts alone.
abbrev pub text_mode : {O : Type 0} → (O → Held) → (Error → Type 0) → ModeView O
text_mode held may = record { held = held; may_give = may; asks = false; emitted = λ o. [] }

-- The mode that emits each piece. What is held is the text of what was emitted; each piece that is rejected is a failed write.
abbrev pub piece_mode : {O : Type 0} → (O → Received) → (Error → Type 0) → ModeView O
piece_mode received may = record {
  held = λ o. record { text = texts (received o).emitted; write_errors = (received o).write_errors };
  may_give = may;
  asks = true;
  emitted = λ o. (received o).emitted;
}
