-- What an output of pieces has received, and how many times it has failed.
use Rattle.std.specs.Prelude.{◌≡◌, ℕ, ◌+◌, ◌^◌, ◌<◌, List, [], ◌∷◌, ◌++◌}
use Rattle.handlebars_semantics.specs.Emitted.{Emitted}

-- what an output has received: the pieces that were emitted to it, and how many errors it has returned
pub record Received : Type 0 where
  pub emitted : List Emitted
  pub write_errors : ℕ

-- what a new output has received
abbrev pub nothing_received : Received
nothing_received = record { emitted = []; write_errors = 0 }

-- the same, with one more piece
abbrev pub with_piece : Emitted → Received → Received
with_piece t before = record { emitted = before.emitted ++ t ∷ []; write_errors = before.write_errors }

-- the same, with one more error
abbrev pub with_error : Received → Received
with_error before = record { emitted = before.emitted; write_errors = before.write_errors + 1 }

-- the piece was emitted, after those before
pub record IsAccepted (t : Emitted) (before after : Received) : Type 0 where
  pub emitted : after.emitted ≡ before.emitted ++ t ∷ []
  pub write_errors : after.write_errors ≡ before.write_errors

-- No piece was emitted, and an error was returned. It is counted, as far as 64 bits can count.
pub record IsRejected (before after : Received) : Type 0 where
  pub emitted : after.emitted ≡ before.emitted
  pub write_errors : before.write_errors + 1 < 2 ^ 64 → after.write_errors ≡ before.write_errors + 1
