use Rattle.std.proofs.Common.{◌≡◌, string_bytes, take}
use Rattle.test_cases.specs.Pieces.{text_of}
use Rattle.test_cases.proofs.pieces.joined.Given as goal

-- the texts so far are joined
abbrev pub invariant-loop-piece : goal.invariant-loop-piece
invariant-loop-piece l = string_bytes l.text ≡ text_of (take l.piece-index l.pieces)
