use Rattle.std.proofs.Common.{◌≡◌, drop, map}
use Rattle.test_cases.specs.Pieces.{piece_view}
use Rattle.test_cases.proofs.pieces.are_one.Given as goal

-- if the remaining pieces agree, all do
abbrev pub invariant-loop-piece : goal.invariant-loop-piece
invariant-loop-piece l =
    map piece_view (drop l.piece-index l.pieces) ≡ map piece_view l.left
    → map piece_view l.pieces ≡ map piece_view l.fn.others
